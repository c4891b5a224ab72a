pub mod Written
pub mod Settled
