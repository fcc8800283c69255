pub mod OneLemmas
pub mod NodeLemmas
pub mod PartingLemmas
pub mod LeafLemmas
pub mod GroupLemmas
pub mod FindLemmas
pub mod BesideLemmas
pub mod IndexLemmas
