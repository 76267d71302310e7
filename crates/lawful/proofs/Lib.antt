pub mod Bounds
pub mod Holding
pub mod Keeping
pub mod Answering
