pub mod Exchange
pub mod Laid
pub mod Carried
