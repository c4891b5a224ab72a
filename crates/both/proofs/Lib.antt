pub mod Rests
pub mod Following
pub mod Pairing
pub mod InPairs
pub mod Settled
