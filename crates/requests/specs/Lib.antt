pub mod Sites
pub mod Calls
pub mod Answering
pub mod Laws
