pub mod Empties
pub mod Rules
