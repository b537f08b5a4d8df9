pub mod RectangleLaw
pub mod GridComplexLemmas
