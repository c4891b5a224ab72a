pub mod Endings
pub mod Settled
