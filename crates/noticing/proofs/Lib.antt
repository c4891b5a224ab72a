pub mod Noticed
pub mod Settled
