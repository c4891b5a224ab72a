pub mod Held
pub mod Sent
pub mod Caught
pub mod Taken
