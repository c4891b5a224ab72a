pub mod Laying
pub mod Settled
