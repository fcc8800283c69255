pub mod Steps
pub mod Gains
pub mod Relevant
pub mod Slicing
