pub mod Fronts
pub mod Values
pub mod Places
pub mod Pieces
pub mod Cuts
pub mod Unique
pub mod Whole
pub mod Spelt
pub mod Coded
pub mod Stands
pub mod Longest
pub mod Placed
pub mod OneOf
pub mod Caused
pub mod OneKind
pub mod Comments
pub mod Apart
mod Examples
