pub mod Calls
pub mod Added
pub mod Others
