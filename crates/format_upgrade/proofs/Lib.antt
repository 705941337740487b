mod Examples
mod ExamplesSame
pub mod Ordered
pub mod Sights
pub mod Exchange
pub mod Noting
pub mod Following
pub mod Turning
pub mod Uses
pub mod Like
pub mod Carried
pub mod CaseNets
pub mod Reversing
pub mod Kept
