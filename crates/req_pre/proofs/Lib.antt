-- The lemmas of the proofs.
pub mod BackwardLemmas
pub mod ExclusionLemmas
pub mod TargetLemmas
pub mod OwingLemmas
pub mod PreparedLemmas
pub mod GoalListLemmas
