pub mod Mark
pub mod Uses
