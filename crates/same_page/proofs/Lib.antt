pub mod Agreeing
pub mod Spanning
pub mod Reordered
