pub mod MarksInHexagon
pub mod HexagonDegrees
