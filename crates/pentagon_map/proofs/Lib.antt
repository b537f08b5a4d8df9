pub mod ChainMap
pub mod Crossing
pub mod Degrees
mod Examples
pub mod FrontStates
pub mod States
pub mod Rows
pub mod Targets
pub mod Turns
