pub mod PrintLemmas
pub mod LengthLemmas
pub mod ReadBackLemmas
