pub mod Pulse
pub mod Next
pub mod Faults
pub mod Known
pub mod Break
pub mod Sound
pub mod Laws
