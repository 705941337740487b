pub mod World
pub mod Choices
pub mod Clauses
pub mod Formula
pub mod Forms
pub mod Meaning
pub mod Refuting
