pub mod Upgraded
pub mod SameCircuit
pub mod Upgrade
pub mod Order
