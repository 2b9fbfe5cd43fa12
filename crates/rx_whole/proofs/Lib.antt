pub mod ArithmeticLemmas
pub mod DigitsLemmas
pub mod NumberTextLemmas
pub mod ReadingLemmas
pub mod WritingLemmas
