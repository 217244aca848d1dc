pub mod Laws
pub mod Asked
