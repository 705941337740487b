pub mod Start
pub mod Numbered
pub mod Inputs
pub mod Marked
pub mod Coning
pub mod Cases
pub mod Far
pub mod Entries
pub mod Listing
pub mod Together
pub mod Answered
pub mod Evaluated
pub mod Tables
pub mod ExamplesCases
mod SameNets
