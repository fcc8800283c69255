pub mod WidthLemmas
pub mod GoalWidthLemmas
pub mod JoinLemmas
