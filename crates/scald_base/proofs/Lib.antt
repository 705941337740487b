mod Examples
pub mod Device
pub mod Back
pub mod Below
