pub mod Inner
pub mod Pool
