pub mod StateLemmas
pub mod RepeatedLemmas
pub mod ChainLemmas
