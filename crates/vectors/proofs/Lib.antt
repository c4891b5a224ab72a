pub mod Flats
pub mod Vectors
pub mod Stored
pub mod Settled
