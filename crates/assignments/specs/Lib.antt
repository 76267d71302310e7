pub mod Assigned
pub mod Paths
