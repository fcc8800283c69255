pub mod MarkLemmas
pub mod MarkTestLemmas
pub mod AimLemmas
