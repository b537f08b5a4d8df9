pub mod StateSums
pub mod SignedCounts
pub mod TableSums
pub mod EulerLemmas
pub mod PlaceLemmas
pub mod WordLemmas
pub mod SumLemmas
pub mod ExistenceLemmas
