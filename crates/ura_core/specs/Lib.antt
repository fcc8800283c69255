pub mod Judged
pub mod Answers
pub mod Placed
pub mod Searched
