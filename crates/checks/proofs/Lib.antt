pub mod Gating
pub mod Settled
