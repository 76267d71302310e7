pub mod Tasks
pub mod Breaking
pub mod Keeping
pub mod Checking
