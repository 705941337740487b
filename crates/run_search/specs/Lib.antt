pub mod Found
pub mod Pins
