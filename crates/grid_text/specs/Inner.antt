pub mod Stored
pub mod Pictures
pub mod Reading
pub mod Next
pub mod Kinds
pub mod Cuts
