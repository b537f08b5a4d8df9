pub mod Logs
pub mod Inner
