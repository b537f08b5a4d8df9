-- What only private functions and proofs speak of: how a slice is stored, and how it is built.
pub mod Lists
pub mod Graph
pub mod Stored
pub mod Visits
pub mod Built
