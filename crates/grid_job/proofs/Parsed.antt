pub mod WordLemmas
pub mod WalkLemmas
pub mod ReadLemmas
pub mod PassLemmas
pub mod OptionPlaceLemmas
pub mod MakeLemmas
pub mod ValueLemmas
