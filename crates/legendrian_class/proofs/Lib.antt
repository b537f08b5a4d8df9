pub mod ChainLemmas
pub mod FollowedLemmas
pub mod PartLemmas
pub mod VerdictLemmas
pub mod TurnedBounds
pub mod StateVerdicts
pub mod FollowedStates
pub mod StateBounds
