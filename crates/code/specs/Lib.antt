pub mod Commands
pub mod Instructions
pub mod Flow
pub mod Profiles
pub mod Code
pub mod Judging
pub mod Rules
