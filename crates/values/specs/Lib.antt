pub mod Types
pub mod Width
pub mod Values
pub mod Commands
pub mod Zero
