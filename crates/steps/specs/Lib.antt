pub mod Effects
pub mod After
pub mod Moving
pub mod Bytes
