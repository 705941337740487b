pub mod Joined
pub mod Views
pub mod Lines
pub mod Examples
pub mod ExamplesWellFormed
pub mod Every
