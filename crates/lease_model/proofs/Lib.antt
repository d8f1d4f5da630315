pub mod Breaks
pub mod Exclude
pub mod Kept
pub mod Numbers
pub mod Places
pub mod Steps
