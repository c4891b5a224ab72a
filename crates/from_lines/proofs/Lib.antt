pub mod Joined
pub mod Demands
