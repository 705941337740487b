pub mod Clauses
pub mod Meaning
pub mod Propagation
pub mod Rows
