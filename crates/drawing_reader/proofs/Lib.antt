pub mod Cursors
pub mod Lone
pub mod Lists
pub mod Periods
pub mod Keys
pub mod Labels
pub mod Naming
pub mod Sifting
pub mod Backwards
pub mod Bare
pub mod Answered
pub mod Sketches
pub mod Behind
pub mod Given
pub mod Slices
pub mod Climbing
mod Examples
