pub mod ListLemmas
pub mod ReductionLemmas
pub mod MapLemmas
