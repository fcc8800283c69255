-- The lemmas of the proofs.
pub mod LastLemmas
pub mod NumberLemmas
pub mod CountLemmas
pub mod RoleLemmas
pub mod FormLemmas
pub mod ImportLemmas
pub mod AnswerLemmas
