pub mod Does
pub mod Given
pub mod Listed
