pub mod Fits
pub mod Known
pub mod Counts
pub mod Gathered
pub mod Sides
pub mod Adding
