pub mod ComponentDegrees
pub mod Inner
