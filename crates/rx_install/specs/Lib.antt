pub mod Installation
pub mod Laws
pub mod Waiting
pub mod States
