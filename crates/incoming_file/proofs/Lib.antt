pub mod Keeping
pub mod Opens
pub mod Reading
pub mod Shutting
pub mod Telling
