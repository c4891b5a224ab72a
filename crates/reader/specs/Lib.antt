pub mod Reader
pub mod Pairs
