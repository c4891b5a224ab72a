pub mod Stored
pub mod Frames
pub mod Demands
pub mod Within
pub mod Ending
pub mod AnyAsked
pub mod AnyOffered
