pub mod Calls
pub mod Nexts
