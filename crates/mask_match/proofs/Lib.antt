pub mod PlacedLemmas
pub mod BitLemmas
pub mod MovingLemmas
pub mod ShortageLemmas
