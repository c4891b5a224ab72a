pub mod Taking
pub mod Readable
