mod Kept
mod Steps
pub mod Writes
