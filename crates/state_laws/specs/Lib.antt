pub mod Over
pub mod States
pub mod Waiting
