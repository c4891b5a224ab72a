pub mod Layout
pub mod Reading
pub mod Numbers
pub mod Pointed
