pub mod Solve
pub mod Parts
