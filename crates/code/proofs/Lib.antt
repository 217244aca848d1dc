pub mod Laws
pub mod Passes
pub mod Sound
pub mod Laying
pub mod Rules
pub mod Types
pub mod Exact
