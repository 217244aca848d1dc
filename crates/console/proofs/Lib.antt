pub mod Fresh
pub mod Runs
