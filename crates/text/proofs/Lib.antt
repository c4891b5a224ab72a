pub mod Digits
pub mod Unhexed
pub mod Settled
