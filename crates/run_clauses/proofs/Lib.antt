pub mod Pushing
pub mod Holding
pub mod Numbered
pub mod Worlds
pub mod GateFacts
pub mod Choosing
pub mod Inputs
pub mod BreakFacts
pub mod Refuted
pub mod Examples
mod ExamplesRefuting
