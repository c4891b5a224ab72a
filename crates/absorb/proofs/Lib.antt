pub mod Absorbing
pub mod Passing
pub mod Settled
