pub mod Sets
pub mod Machine
pub mod Imports
pub mod Repeats
