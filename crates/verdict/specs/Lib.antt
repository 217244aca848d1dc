pub mod Numbers
pub mod Verdict
pub mod Refusals
pub mod Faults
pub mod Items
