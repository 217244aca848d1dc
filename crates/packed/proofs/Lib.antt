pub mod Decimal
pub mod ThereAndBack
