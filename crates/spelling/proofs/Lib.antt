pub mod Spelt
pub mod Settled
