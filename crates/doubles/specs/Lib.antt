pub mod Doubles
