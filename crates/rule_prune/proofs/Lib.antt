pub mod StepLemmas
pub mod GrowthLemmas
pub mod GainLemmas
pub mod OutsideLemmas
pub mod RelevantLemmas
pub mod SliceLemmas
