pub mod CommutesAgain
pub mod SwapGridLemmas
pub mod SwappedTwice
pub mod TransposedGrids
