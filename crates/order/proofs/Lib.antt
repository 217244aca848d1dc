pub mod Stretches
pub mod Eight
