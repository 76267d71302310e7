pub mod Pigeonhole
pub mod Listing
pub mod Keeping
