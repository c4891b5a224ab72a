pub mod Littles
pub mod Settled
