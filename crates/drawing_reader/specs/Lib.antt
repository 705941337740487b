pub mod Reader
pub mod Operators
pub mod Statements
pub mod Sketched
pub mod Keys
pub mod Sifted
pub mod Ascending
