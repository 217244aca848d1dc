pub mod Task
pub mod Machine
pub mod Tasks
pub mod Set
pub mod Fit
pub mod Preparing
pub mod Places
