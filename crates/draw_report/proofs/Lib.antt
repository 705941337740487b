pub mod Ranges
pub mod Texts
pub mod Writing
pub mod Paths
pub mod Strips
pub mod Reading
pub mod Whole
pub mod Pages
pub mod Drawing
pub mod Runs
pub mod Places
pub mod Clocks
pub mod Cutting
pub mod Showing
pub mod Filling
pub mod Shading
mod ExamplesPictures
mod ExamplesMarks
mod ExamplesRows
pub mod Seeking
pub mod Collecting
pub mod Replying
pub mod OneAnswer
pub mod Lawful
mod Examples
