pub mod Words
pub mod Forms
pub mod Report
pub mod Answer
pub mod Promise
pub mod Kept
pub mod Finished
pub mod Laws
