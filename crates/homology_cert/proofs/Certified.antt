pub mod NumberLemmas
pub mod CheckLemmas
pub mod PassingLemmas
pub mod CertifiedLemmas
