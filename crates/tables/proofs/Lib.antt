pub mod Relating
pub mod Counts
pub mod Places
