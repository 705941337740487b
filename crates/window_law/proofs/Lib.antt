pub mod Moving
pub mod Inputs
pub mod MovedBreaks
pub mod Cutting
pub mod Finite
pub mod Examples
