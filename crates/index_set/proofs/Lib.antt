pub mod Places
pub mod Apart
pub mod Moves
pub mod Stored
pub mod Inserts
