-- The lemmas of the proofs.
pub mod FrontLemmas
pub mod TextLemmas
