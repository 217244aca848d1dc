pub mod Truth
pub mod Verdict
pub mod Refusals
pub mod Items
