pub mod Listed
pub mod Held
