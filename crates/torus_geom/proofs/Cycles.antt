pub mod CycleLemmas
pub mod WalkLemmas
pub mod ComponentLemmas
