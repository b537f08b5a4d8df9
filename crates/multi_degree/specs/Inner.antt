-- What only private functions and proofs speak of: what a mark gives to a degree.
pub mod Around
