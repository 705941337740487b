pub mod Steps
pub mod StepSet
pub mod Laws
pub mod Cell
pub mod Each
pub mod Lawful
pub mod Image
pub mod Table
