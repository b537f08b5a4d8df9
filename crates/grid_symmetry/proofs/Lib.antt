pub mod RenamedComplexes
pub mod CarriedRanks
pub mod TransposedLaws
pub mod MarksExchanged
pub mod Opposites
pub mod Reflecting
pub mod ReflectedPairs
pub mod ReflectedLaws
pub mod HalfTurning
pub mod FrontStates
pub mod StateLaws
pub mod RowLoops
mod Examples
