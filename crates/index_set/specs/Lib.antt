pub mod Distinct
pub mod Found
pub mod Inserting
pub mod Items
