pub mod Homes
pub mod Deriving
