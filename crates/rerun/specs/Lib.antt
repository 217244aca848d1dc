pub mod Calls
pub mod Rerunning
pub mod Rerun
