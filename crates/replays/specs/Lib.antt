pub mod Holding
pub mod Ties
pub mod Keeping
pub mod Playing
pub mod Agreeing
