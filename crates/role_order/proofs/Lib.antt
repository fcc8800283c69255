pub mod SetLemmas
pub mod ReachLemmas
pub mod ClosureLemmas
pub mod NameLemmas
pub mod OrderLemmas
pub mod MaskLemmas
pub mod FirstLemmas
