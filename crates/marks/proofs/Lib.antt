pub mod Marking
pub mod Written
pub mod Settled
