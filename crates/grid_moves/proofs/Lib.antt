pub mod Exchanged
pub mod Turned
