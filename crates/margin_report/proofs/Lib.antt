pub mod Monotone
pub mod Greatest
pub mod Lowered
pub mod Searching
pub mod Pieces
pub mod RowByRow
pub mod Tried
pub mod Promised
mod Examples
