mod Shifts
pub mod Laws
pub mod Inside
pub mod Settled
