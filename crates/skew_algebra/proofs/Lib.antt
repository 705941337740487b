pub mod Cells
pub mod Normal
pub mod Moves
pub mod Round
mod Examples
