pub mod Turned
pub mod Settled
