pub mod Texts
pub mod Words
pub mod Files
pub mod Choices
