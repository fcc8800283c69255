pub mod PosingLemmas
pub mod KnownLemmas
pub mod WrittenLemmas
pub mod AnswerLemmas
