pub mod Permits
pub mod Bytes
pub mod Examples
pub mod Filled
pub mod Sound
pub mod Quiet
pub mod Written
