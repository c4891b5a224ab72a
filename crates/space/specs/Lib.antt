pub mod Lists
pub mod Space
