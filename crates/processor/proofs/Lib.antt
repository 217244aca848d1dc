pub mod Inside
pub mod Accepted
pub mod Commands
pub mod Kept
