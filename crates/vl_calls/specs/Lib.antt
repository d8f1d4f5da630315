pub mod Answers
pub mod Calls
pub mod Entries
pub mod Reading
pub mod Shapes
pub mod Words
pub mod Writes
pub mod Writing
