pub mod Limits
pub mod Sources
pub mod Windows
pub mod Clocks
pub mod Active
pub mod Asked
pub mod Bounded
