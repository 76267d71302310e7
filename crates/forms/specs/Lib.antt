pub mod Fields
pub mod Spelling
