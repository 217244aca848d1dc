pub mod Moves
pub mod Records
pub mod Cursors
pub mod Accepted
pub mod Stretches
pub mod Carrying
