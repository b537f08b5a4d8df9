mod Examples
pub mod WayBack
pub mod Targets
pub mod Degrees
pub mod States
