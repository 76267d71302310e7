pub mod Letters
pub mod Names
pub mod Numbers
pub mod Flags
pub mod Lines
pub mod Sameness
