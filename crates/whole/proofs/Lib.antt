pub mod Parts
pub mod Opened
pub mod Accepted
pub mod Refused
pub mod Written
pub mod Offered
pub mod Asked
