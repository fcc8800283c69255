pub mod Preparing
pub mod Combining
pub mod Views
pub mod Answers
pub mod Owing
