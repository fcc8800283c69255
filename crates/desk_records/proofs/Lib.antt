-- The lemmas of the proofs.
pub mod NumberedLemmas
pub mod PutLemmas
pub mod LastLemmas
pub mod KeptLemmas
