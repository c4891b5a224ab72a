pub mod Straying
pub mod Settled
