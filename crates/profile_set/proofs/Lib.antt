pub mod DrawLemmas
pub mod FieldLemmas
pub mod ReadLemmas
pub mod ReaderLemmas
pub mod RowLemmas
pub mod SoleLemmas
pub mod GroupLemmas
