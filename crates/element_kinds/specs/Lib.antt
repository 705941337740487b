pub mod Kinds
pub mod Equation
