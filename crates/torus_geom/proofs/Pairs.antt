pub mod PairLemmas
pub mod RowPairLemmas
pub mod CornerCounts
pub mod ExchangeLaw
