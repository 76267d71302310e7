pub mod Codes
pub mod Said
