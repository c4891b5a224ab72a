pub mod Alike
pub mod Behind
pub mod Repeated
pub mod Settled
