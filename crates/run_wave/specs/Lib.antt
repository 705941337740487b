pub mod Run
pub mod Mark
