mod Reports
mod Timing
mod Splits
pub mod Actives
pub mod Gathering
pub mod Asking
