pub mod Making
pub mod Settled
