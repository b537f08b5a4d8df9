pub mod Degrees
pub mod Sums
pub mod Inner
