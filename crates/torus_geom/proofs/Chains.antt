pub mod StateTests
pub mod StateChains
pub mod ChainLemmas
pub mod CodesLemmas
pub mod ReachedLemmas
pub mod OrderedMembers
mod Examples
