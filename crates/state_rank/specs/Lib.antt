pub mod Bijection
pub mod Blocks
pub mod Counted
pub mod Inner
pub mod States
