pub mod Choosing
pub mod Weights
pub mod Within
pub mod Settled
