mod Stepping
mod Counting
mod Sessions
mod Sinces
mod Histories
mod Leases
mod Afterwards
mod Uses
mod Ordering
pub mod Ruling
