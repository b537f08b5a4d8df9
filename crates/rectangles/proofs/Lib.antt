pub mod Square
pub mod Homology
pub mod Sweep
pub mod Law
