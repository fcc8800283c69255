-- The lemmas of the proofs.
pub mod SharedLemmas
pub mod SortedLemmas
pub mod RowLemmas
pub mod IndexLemmas
