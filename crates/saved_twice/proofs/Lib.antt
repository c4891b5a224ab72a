pub mod Given
pub mod Demand2
pub mod Told
pub mod Numbers
pub mod Counted
pub mod Demand3
