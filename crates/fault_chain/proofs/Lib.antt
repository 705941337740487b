pub mod Pins
pub mod Elements
pub mod Moving
pub mod Drivers
pub mod Going
pub mod Looking
pub mod Following
pub mod Started
pub mod Telling
pub mod Long
pub mod Whole
pub mod Delays
pub mod Drawn
pub mod Promised
mod Examples
mod ExamplesLaws
