pub mod RunLemmas
pub mod GoalLemmas
