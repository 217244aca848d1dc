pub mod Writing
pub mod Numbers
pub mod Takings
pub mod Lines
pub mod Answers
pub mod Example
