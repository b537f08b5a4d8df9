-- What only private functions and proofs speak of.
pub mod CodeVerdicts
pub mod CodeFollowed
pub mod Parts
