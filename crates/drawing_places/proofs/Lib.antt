pub mod Paths
pub mod Bodies
pub mod Finding
pub mod Leading
pub mod Assertions
mod Examples
