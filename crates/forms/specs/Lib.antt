pub mod Forms
pub mod BothWays
pub mod Alike
