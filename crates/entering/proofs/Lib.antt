pub mod Slots
pub mod Entered
pub mod Settled
