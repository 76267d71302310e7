pub mod Deciding
pub mod Committing
pub mod Reaching
pub mod Sounding
pub mod Paths
pub mod Deserving
