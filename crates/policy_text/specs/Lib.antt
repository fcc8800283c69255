pub mod Lines
pub mod LineForms
pub mod Limits
pub mod Runs
pub mod Faults
pub mod Spelling
pub mod Views
pub mod Steps
