pub mod Fitting
pub mod Keeping
pub mod LikeChanges
pub mod Over
pub mod Turning
pub mod Waiting
