pub mod ReadingLemmas
pub mod WalkLemmas
pub mod CommandLemmas
pub mod TextLemmas
pub mod SpellingLemmas
pub mod NumberLemmas
pub mod ValueLemmas
pub mod SayLemmas
