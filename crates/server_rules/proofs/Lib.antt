pub mod Fetches
pub mod Turns
