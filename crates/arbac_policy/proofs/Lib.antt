pub mod MemberLemmas
pub mod TermLemmas
