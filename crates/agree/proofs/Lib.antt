mod Quads
mod Shorts
pub mod Settled
