mod Examples
mod ExamplesDelays
mod ExamplesLimits
mod ExamplesTurns
pub mod Lists
pub mod Alike
pub mod Nets
pub mod Gathered
pub mod Fronts
pub mod Formals
pub mod Binding
pub mod Ranges
pub mod Running
pub mod Leading
pub mod Parameters
pub mod Joints
pub mod Uses
pub mod Adding
pub mod Facts
pub mod PinOrder
pub mod PrimitiveUses
pub mod WireBounds
pub mod Statements
pub mod ConstantValues
pub mod Turns
pub mod Whole
pub mod Only
pub mod Standing
