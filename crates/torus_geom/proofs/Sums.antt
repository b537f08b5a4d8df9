pub mod SumLemmas
pub mod RunningSums
pub mod HalfLemmas
pub mod AllBelowLemmas
pub mod TabulateLemmas
