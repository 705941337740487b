pub mod Circuits
mod ExamplesPaths
mod ExamplesLaunches
mod ExamplesArrivals
mod ExamplesEnds
mod ExamplesWires
pub mod Searches
pub mod Runs
pub mod Linked
pub mod Staying
pub mod Moving
pub mod Ticks
pub mod Showing
pub mod Making
pub mod Causing
pub mod Backing
mod Stops
mod Nodes
mod Trails
mod Few
mod Memo
mod Rounds
mod Finite
mod Keys
mod Places
mod Gathered
mod Arrivals
mod Appended
mod Behind
mod Ways
pub mod Exact
mod Chains
mod Search
mod Fresh
mod Walks
mod Settles
mod Turning
mod Edges
mod PinPaths
mod Origins
mod Stepping
mod Counting
pub mod MadePaths
pub mod Finding
pub mod Pins
pub mod Cutting
pub mod Ending
pub mod Wires
pub mod Arriving
