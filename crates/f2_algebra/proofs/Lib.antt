pub mod Chains
pub mod Cancelling
pub mod Ranks
pub mod Certificates
pub mod Duals
pub mod Example
