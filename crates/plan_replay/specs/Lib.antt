pub mod Replays
pub mod GoalLists
