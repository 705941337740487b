pub mod Examples
pub mod Sections
