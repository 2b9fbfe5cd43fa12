pub mod ClauseWords
pub mod Assignments
pub mod Instructions
pub mod Forwards
pub mod Templates
pub mod Loops
pub mod Clauses
pub mod Bodies
