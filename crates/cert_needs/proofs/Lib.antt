-- The lemmas of the proofs.
pub mod CoverLemmas
pub mod ExclusionLemmas
pub mod FormLemmas
pub mod HitLemmas
pub mod ServingLemmas
pub mod WantedLemmas
