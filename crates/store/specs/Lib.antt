pub mod Store
pub mod Header
