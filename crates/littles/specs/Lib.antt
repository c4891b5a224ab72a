pub mod Littles
