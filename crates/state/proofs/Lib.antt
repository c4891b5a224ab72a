pub mod Sizes
pub mod Fits
pub mod Parts
pub mod Settled
