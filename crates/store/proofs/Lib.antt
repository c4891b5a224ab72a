pub mod Sizes
pub mod Checked
pub mod Parts
pub mod Back
pub mod Settled
