pub mod Reading
pub mod Listed
pub mod Turns
pub mod Ends
pub mod Claims
