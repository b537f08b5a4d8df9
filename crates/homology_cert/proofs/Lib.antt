pub mod Texts
pub mod Made
pub mod Certified
pub mod Homology
pub mod Components
pub mod States
