pub mod Cell
pub mod Slots
pub mod Fold
