pub mod Octets
pub mod Settles
