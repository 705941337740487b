pub mod Meets
pub mod Interface
pub mod Pin
pub mod Laws
