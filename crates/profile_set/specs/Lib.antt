pub mod Draws
pub mod Groups
pub mod Members
pub mod Reader
pub mod Rows
pub mod Tallies
