pub mod Wave
pub mod Permits
