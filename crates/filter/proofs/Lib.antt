pub mod Noted
pub mod Settled
