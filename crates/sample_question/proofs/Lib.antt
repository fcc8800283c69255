pub mod PairLemmas
pub mod NameLemmas
pub mod RuleLemmas
pub mod KeepLemmas
