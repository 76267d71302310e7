pub mod Places
pub mod All
