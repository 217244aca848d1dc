pub mod Places
pub mod Footprint
pub mod RaceFree
pub mod Swaps
pub mod Stretch
