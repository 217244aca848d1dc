pub mod Turns
pub mod Serial
pub mod Rings
pub mod Check
pub mod Files
pub mod Ring
pub mod Shown
