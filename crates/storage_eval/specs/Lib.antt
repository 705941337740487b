pub mod Storage
pub mod Instance
pub mod Quiet
