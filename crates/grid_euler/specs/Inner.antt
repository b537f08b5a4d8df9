-- What only private functions and proofs speak of: the numbers while they are summed.
pub mod Sums
