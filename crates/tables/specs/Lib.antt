pub mod Limits
pub mod Indices
pub mod Sides
pub mod Lists
pub mod Drafts
pub mod Naming
pub mod Adding
