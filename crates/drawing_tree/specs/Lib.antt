pub mod Expression
pub mod Value
pub mod Tree
pub mod Places
pub mod ExpressionText
pub mod Canonical
pub mod WellFormed
pub mod EachPlace
