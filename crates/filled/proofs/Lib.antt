pub mod Filling
pub mod Pages
pub mod Stored
pub mod Told
