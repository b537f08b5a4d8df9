pub mod Sums
pub mod Pairs
pub mod Circles
pub mod Cycles
pub mod Chains
mod Examples
pub mod TransposeLemmas
