pub mod DefaultLemmas
pub mod KeptLemmas
pub mod ProgramLemmas
pub mod Sending
