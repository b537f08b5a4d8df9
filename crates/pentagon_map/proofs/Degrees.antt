pub mod CountedFrom
pub mod RowsOfPentagon
pub mod ExchangedColumns
pub mod MarksInPentagon
pub mod KeptDegrees
