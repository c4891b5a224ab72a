pub mod Doubles
pub mod Settled
pub mod Counted
