pub mod Shifts
pub mod TurnedPentagons
pub mod TurnedImages
pub mod TurnedByAxis
