pub mod StoredLemmas
pub mod DegreeListLemmas
pub mod RowOrder
pub mod MultiTableLemmas
pub mod DividedRows
pub mod CellCounts
