pub mod Bits
pub mod Numbers
pub mod Putting
pub mod Finding
