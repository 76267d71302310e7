pub mod Pairs
pub mod Alike
pub mod Listed
pub mod Comparing
pub mod Rows
pub mod Bounded
