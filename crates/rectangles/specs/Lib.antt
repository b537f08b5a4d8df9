pub mod Coranks
pub mod FirstMarks
pub mod Inner
