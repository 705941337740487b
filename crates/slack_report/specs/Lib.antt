pub mod Words
pub mod Answer
pub mod Promise
pub mod Hazards
