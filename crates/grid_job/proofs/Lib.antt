pub mod Generated
pub mod Certified
pub mod Reported
pub mod Outcomes
pub mod Parsed
pub mod Compared
