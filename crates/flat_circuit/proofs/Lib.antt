mod Lists
mod Alike
mod Pairs
mod Values
mod ExamplesClasses
pub mod FewNodes
pub mod Nodes
pub mod OrderWalk
pub mod Moved
pub mod MovedSplits
pub mod Parts
pub mod Instancewise
pub mod Deciding
pub mod RunTest
pub mod RunTables
pub mod GateRuns
pub mod StorageRuns
pub mod ChangeRuns
pub mod ChoiceRuns
pub mod SplitRuns
pub mod AnyLength
pub mod Examples
pub mod Walk
pub mod Driven
pub mod Names
pub mod Stretches
pub mod Numbered
pub mod Loops
pub mod Rows
pub mod Tables
pub mod Given
pub mod Counts
pub mod Ends
pub mod Splits
pub mod SplitExamples
