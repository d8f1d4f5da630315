pub mod Sentences
pub mod ValueNames
pub mod Usages
pub mod Asked
pub mod Answers
