pub mod BlankLemmas
pub mod BoolLemmas
pub mod Order
