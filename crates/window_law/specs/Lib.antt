pub mod Window
pub mod Shift
pub mod Laws
