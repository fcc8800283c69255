pub mod Marks
pub mod MarkTests
pub mod MarkParts
