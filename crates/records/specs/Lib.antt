pub mod File
pub mod Records
pub mod Rules
pub mod Order
