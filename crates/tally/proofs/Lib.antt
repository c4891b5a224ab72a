mod Leaves
pub mod Uses
pub mod Fits
pub mod Settled
