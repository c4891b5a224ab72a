pub mod Fits
pub mod Back
pub mod Lengths
pub mod Settled
