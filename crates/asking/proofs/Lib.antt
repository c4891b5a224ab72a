pub mod Sizes
pub mod Answered
pub mod Settled
