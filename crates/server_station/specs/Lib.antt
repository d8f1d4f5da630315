pub mod Askers
pub mod Fit
pub mod Frames
pub mod Recording
pub mod Replaying
pub mod Turns
