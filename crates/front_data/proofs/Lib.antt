pub mod CrossingLemmas
pub mod CornerLemmas
pub mod PlusLemmas
pub mod FrontLemmas
pub mod FilledRows
