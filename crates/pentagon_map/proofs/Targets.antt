pub mod PushLemmas
pub mod InOrder
pub mod OddSums
pub mod LoopLemmas
