pub mod Candidates
pub mod Beats
pub mod Rounds
pub mod Plans
pub mod Rows
pub mod Pruning
