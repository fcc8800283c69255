pub mod Nodes
pub mod Index
