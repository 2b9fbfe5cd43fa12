pub mod AnswerLemmas
pub mod RowLemmas
pub mod SpaceLemmas
pub mod WordLemmas
