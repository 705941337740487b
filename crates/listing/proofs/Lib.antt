pub mod Parts
pub mod Numbers
pub mod Runs
pub mod Waves
pub mod Pieces
pub mod Kept
pub mod Examples
