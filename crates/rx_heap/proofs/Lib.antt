pub mod ArrayLemmas
pub mod StampLemmas
pub mod ObjectLemmas
