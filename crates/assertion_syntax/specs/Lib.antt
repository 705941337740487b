pub mod Name
pub mod Reading
pub mod Units
pub mod Slots
pub mod Faults
