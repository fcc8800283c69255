pub mod PlanLemmas
pub mod RoundLemmas
pub mod SettleLemmas
pub mod WalkLemmas
mod SearchLemmas
mod ShowingLemmas
