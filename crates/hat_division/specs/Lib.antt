pub mod Table
pub mod Product
pub mod RankMaps
pub mod Factors
pub mod DegreeLists
pub mod MultiTable
pub mod Inner
