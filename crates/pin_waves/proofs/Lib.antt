pub mod ClockEdges
pub mod Asserted
pub mod CodeSlots
pub mod Pins
pub mod MeetsLaws
pub mod Tests
pub mod Kept
mod ExamplesPeriod
mod ExamplesPrecision
mod ExamplesClock
mod ExamplesStable
