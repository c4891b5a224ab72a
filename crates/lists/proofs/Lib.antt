pub mod AtArrival
pub mod Rows
pub mod Settled
