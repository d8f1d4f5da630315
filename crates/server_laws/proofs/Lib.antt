pub mod Events
pub mod Lives
pub mod Meant
pub mod Runs
pub mod Sites
pub mod Untold
pub mod Worlds
