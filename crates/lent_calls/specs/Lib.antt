pub mod Calling
pub mod Profiles
pub mod Rerun
