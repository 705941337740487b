pub mod Pieces
pub mod Parts
pub mod SpansSoFar
pub mod Names
pub mod Intervals
pub mod Covered
pub mod Near
pub mod Edges
