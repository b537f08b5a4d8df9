pub mod CodeHomotopies
pub mod Hexagons
