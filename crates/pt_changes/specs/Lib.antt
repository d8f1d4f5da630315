pub mod Ends
pub mod Leaving
pub mod Standing
pub mod Turning
