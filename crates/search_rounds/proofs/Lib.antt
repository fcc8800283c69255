pub mod KeepingLemmas
mod AddingLemmas
mod PickLemmas
mod ListingLemmas
mod UsefulLemmas
mod RankingLemmas
