pub mod Asking
pub mod Course
pub mod Ending
pub mod Hearing
pub mod Running
pub mod Stops
pub mod Texts
pub mod Writing
