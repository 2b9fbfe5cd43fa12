pub mod CompareLemmas
pub mod FittedLemmas
pub mod LetterLemmas
pub mod PlaceLemmas
pub mod PieceLemmas
