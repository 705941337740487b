pub mod Sharing
pub mod Mapping
pub mod Tabling
pub mod Keying
pub mod Splitting
mod ExamplesSlips
pub mod FindingHeld
pub mod AddingHeld
mod ExamplesCases
pub mod Adding
pub mod Anys
pub mod Written
pub mod Reading
pub mod Loosing
pub mod Naming
pub mod Driving
pub mod Nearing
pub mod Noting
pub mod Valuing
pub mod Doubled
pub mod Bodies
pub mod Over
pub mod Using
pub mod Turning
pub mod Walking
pub mod Whole
pub mod Listing
pub mod SpreadSizes
pub mod Spotting
pub mod ExamplesParts
mod ExamplesNames
mod ExamplesSpread
