pub mod Runs
pub mod Histories
pub mod Laws
pub mod Law
