mod Rooms
pub mod Settled
