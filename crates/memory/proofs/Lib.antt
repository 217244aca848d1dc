pub mod Laws
pub mod Number
pub mod Turns
pub mod Cores
pub mod Words
