pub mod Moves
pub mod Ring
pub mod Scan
pub mod Next
