pub mod Cancellation
pub mod LogLemmas
pub mod LogCounts
pub mod Slice
pub mod Laws
