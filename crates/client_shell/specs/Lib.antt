pub mod Sinks
pub mod Standing
pub mod Runs
pub mod Sources
pub mod Turns
