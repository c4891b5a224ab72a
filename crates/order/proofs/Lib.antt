pub mod Listed
pub mod Seeds
pub mod Writing
pub mod Settled
