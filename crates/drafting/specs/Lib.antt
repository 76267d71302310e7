pub mod Fit
pub mod Pairing
pub mod Effects
