pub mod Inner
pub mod Pentagon
