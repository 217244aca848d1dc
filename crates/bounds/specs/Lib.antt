pub mod Paths
pub mod Bounds
pub mod Outputs
pub mod Promised
