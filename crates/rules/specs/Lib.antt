pub mod Spots
pub mod States
pub mod Reaching
pub mod Access
pub mod Judging
pub mod Reasons
pub mod Sound
