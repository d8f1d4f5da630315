pub mod Asking
pub mod Choices
pub mod Few
pub mod Replaying
pub mod Telling
