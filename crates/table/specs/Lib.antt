pub mod Table
pub mod Next
