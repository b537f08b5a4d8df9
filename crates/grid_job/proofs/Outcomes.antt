pub mod OutcomeLemmas
pub mod ModeLemmas
pub mod OptionLemmas
pub mod WrittenLemmas
pub mod HeadLemmas
