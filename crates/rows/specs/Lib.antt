pub mod Rows
pub mod Range
pub mod Bytes
pub mod Shift
