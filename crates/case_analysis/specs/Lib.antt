pub mod Base
pub mod Tick
pub mod Case
pub mod Found
pub mod Listed
pub mod Reached
