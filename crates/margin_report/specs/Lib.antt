pub mod Margin
pub mod Report
pub mod Answer
pub mod Tried
pub mod Laws
pub mod Promise
