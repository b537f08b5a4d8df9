pub mod GradedStates
pub mod HomologyLemmas
pub mod BorderLaws
pub mod CorankLemmas
pub mod GridCells
