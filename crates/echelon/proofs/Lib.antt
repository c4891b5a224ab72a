pub mod Ranks
pub mod Staying
pub mod Turning
pub mod Outcomes
pub mod Settled
