pub mod FourNumbers
pub mod CrossingRow
