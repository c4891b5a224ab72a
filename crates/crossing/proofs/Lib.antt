pub mod Sent
pub mod Moved
pub mod Added
pub mod Refused
pub mod Laid
pub mod Demand2
pub mod Flipped
pub mod Demand3
