pub mod Packed
pub mod Data
pub mod ThereAndBack
pub mod Examples
