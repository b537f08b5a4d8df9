pub mod CyclicRows
pub mod PlusState
pub mod MinusState
pub mod ByAxis
