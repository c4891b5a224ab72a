pub mod Fronts
pub mod Units
pub mod Writing
pub mod Settled
