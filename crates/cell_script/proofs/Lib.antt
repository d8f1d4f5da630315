pub mod Bounds
pub mod Firsts
pub mod Reading
pub mod WordLaws
pub mod Writing
