pub mod Cutting
pub mod Pulses
