pub mod Somes
pub mod Finds
pub mod Ranges
pub mod Anys
