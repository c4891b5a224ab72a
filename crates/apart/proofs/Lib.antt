pub mod Apart
pub mod Gathering
pub mod Fitting
pub mod Settled
