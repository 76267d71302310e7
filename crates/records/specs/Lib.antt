pub mod Grammar
pub mod Readings
pub mod Steps
pub mod Cuts
pub mod Views
pub mod Writing
