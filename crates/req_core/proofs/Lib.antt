-- The lemmas of the proofs.
pub mod BeforeLemmas
pub mod CoverLemmas
pub mod FormLemmas
pub mod HitLemmas
pub mod MeetLemmas
