pub mod Firsts
pub mod ReadSlots
pub mod Found
pub mod Where
pub mod Exceeded
pub mod Steady
pub mod Near
pub mod Marks
pub mod Held
pub mod Words
pub mod Whose
pub mod Gathered
pub mod Watched
pub mod Kept
pub mod AsBefore
pub mod Again
pub mod Literal
pub mod Broken
pub mod Longer
mod Examples
mod ExamplesSetupHold
mod ExamplesRiseFall
mod ExamplesMark
mod ExamplesNet
