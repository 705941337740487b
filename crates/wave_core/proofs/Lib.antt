pub mod Slots
pub mod Fold
pub mod Turned
pub mod Steady
pub mod Places
mod Examples
