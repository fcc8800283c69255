pub mod Posing
pub mod Outcomes
pub mod Answers
