pub mod RangeLemmas
pub mod BetweenLemmas
pub mod TurnLemmas
pub mod NeighbourLemmas
pub mod RectangleLemmas
