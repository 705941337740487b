pub mod Forms
pub mod Names
pub mod Examples
pub mod EquationExamples
