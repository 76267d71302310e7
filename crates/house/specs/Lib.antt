pub mod Views
pub mod Changing
