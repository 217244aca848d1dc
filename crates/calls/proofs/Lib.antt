pub mod Interleaving
pub mod Back
pub mod Calling
pub mod Fair
pub mod Blank
pub mod Profiles
pub mod Starts
