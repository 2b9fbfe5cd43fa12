pub mod NestingLemmas
