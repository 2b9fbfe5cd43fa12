pub mod MethodClauses
pub mod Conditions
pub mod Programs
pub mod Refusals
pub mod Checking
pub mod Sizes
pub mod Validity
pub mod Laws
