pub mod Symmetries
