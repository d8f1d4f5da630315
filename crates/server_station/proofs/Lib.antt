pub mod Asking
pub mod Bits
pub mod Building
pub mod Fitting
pub mod Numbering
pub mod Recording
pub mod Replaying
pub mod Sending
