mod Counts
pub mod Threshold
pub mod Chosen
pub mod Settled
