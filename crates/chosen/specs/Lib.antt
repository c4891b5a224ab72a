pub mod Chosen
pub mod Weight
