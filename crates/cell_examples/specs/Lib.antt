pub mod Changed
pub mod Late
pub mod Register
pub mod Running
pub mod Showing
pub mod Unknown
