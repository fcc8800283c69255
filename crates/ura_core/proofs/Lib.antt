pub mod MemberLemmas
pub mod StepLemmas
pub mod FallingLemmas
pub mod AnswerLemmas
pub mod DenialLemmas
pub mod StrongLemmas
pub mod CriterionLemmas
