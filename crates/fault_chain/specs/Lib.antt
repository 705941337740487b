pub mod Chain
pub mod Met
pub mod Report
pub mod Answer
pub mod Laws
