pub mod Listing
pub mod Writers
