pub mod Verdicts
pub mod VerdictCodes
pub mod Followed
pub mod FollowedCodes
pub mod Inner
