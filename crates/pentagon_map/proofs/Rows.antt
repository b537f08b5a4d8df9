pub mod Transposing
pub mod ImageByRows
