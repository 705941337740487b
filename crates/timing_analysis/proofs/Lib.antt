pub mod OneOrder
pub mod OneCircuit
pub mod OneText
pub mod Placed
pub mod Reading
pub mod Counts
pub mod Reached
pub mod SettlesOneWay
pub mod Headline
pub mod Settling
pub mod Cases
pub mod Ends
mod Examples
mod Unbroken
mod ExamplesBroken
pub mod Stored
