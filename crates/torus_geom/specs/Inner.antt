pub mod Stored
pub mod CodeBorder
pub mod GridComplex
pub mod CodeHomology
