pub mod Quads
