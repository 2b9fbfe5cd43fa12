pub mod SpotLemmas
pub mod KeptLemmas
pub mod LayLemmas
pub mod LaidLemmas
pub mod BodyLemmas
pub mod LabelLemmas
pub mod FindLemmas
pub mod LoopLemmas
