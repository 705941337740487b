pub mod Narrow
pub mod Listed
pub mod Gathered
pub mod Kept
pub mod Literal
pub mod Broken
pub mod Greater
mod Examples
mod ExamplesBreak
pub mod AsBefore
