pub mod Fits
pub mod Heads
pub mod Settled
