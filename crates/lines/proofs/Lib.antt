pub mod Settled
pub mod Takes
pub mod Readable
pub mod Order
pub mod Results
