pub mod Alike
pub mod BothWays
pub mod Laws
pub mod RunsAlike
