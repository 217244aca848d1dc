pub mod Conversions
pub mod Digits
pub mod Kept
pub mod Rounding
pub mod Data
pub mod Examples
