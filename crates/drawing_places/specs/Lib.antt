pub mod Path
pub mod Find
pub mod Body
pub mod Uses
pub mod Names
