pub mod Serial
pub mod Check
pub mod Rings
pub mod Files
pub mod Shown
