pub mod Processor
pub mod Executable
pub mod Placed
pub mod Typed
