pub mod Lines
pub mod States
pub mod Paths
pub mod PlainForm
