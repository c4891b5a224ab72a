pub mod Both
pub mod Pairs
pub mod Parts
