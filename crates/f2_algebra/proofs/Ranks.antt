pub mod DimensionLemmas
pub mod Pigeonhole
pub mod RankLemmas
pub mod Existence
pub mod Part
pub mod Bigraded
pub mod Maps
pub mod OrderLemmas
