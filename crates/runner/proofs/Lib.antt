pub mod Running
pub mod Loop
pub mod Exchanging
pub mod End
pub mod Carrying
pub mod Executing
pub mod Bytes
