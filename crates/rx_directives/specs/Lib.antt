pub mod DirectiveWords
pub mod Directives
pub mod Reader
pub mod Laws
pub mod Parsed
pub mod Packages
