pub mod Runs
pub mod Running
pub mod Going
pub mod Executing
