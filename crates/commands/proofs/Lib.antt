pub mod Attempts
pub mod Known
pub mod Laws
pub mod Results
