pub mod Stored
pub mod Heard
pub mod Sounds
pub mod Kept
pub mod Dependence
pub mod Quiet
