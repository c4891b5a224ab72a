pub mod Firsts
pub mod Empty
pub mod Longer
pub mod Next
pub mod Held
