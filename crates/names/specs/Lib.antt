pub mod Tables
pub mod Spelt
pub mod Spellings
