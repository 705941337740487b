pub mod Views
pub mod Joined
pub mod Found
pub mod Texts
pub mod Decoded
pub mod Digits
pub mod Counts
pub mod New
pub mod Tried
pub mod Bracketed
pub mod KeptPorts
pub mod Starts
pub mod Joining
pub mod Named
pub mod Claims
pub mod Runs
pub mod Steps
pub mod Apart
pub mod Written
pub mod Vectors
pub mod Grown
pub mod Distinct
pub mod WordBytes
pub mod GoodNames
pub mod Declared
pub mod Worded
pub mod Called
pub mod Sourced
pub mod NamedBits
pub mod Lawful
mod ReaderExamples
mod MacroExamples
mod TextExamples
mod CallExamples
