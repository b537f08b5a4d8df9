pub mod FactLemmas
pub mod ComparisonLemmas
