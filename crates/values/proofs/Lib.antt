pub mod Spellings
pub mod Refusing
pub mod Named
