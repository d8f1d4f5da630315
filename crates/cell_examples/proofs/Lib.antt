pub mod Changed
pub mod Late
pub mod LeftOut
pub mod Ordered
pub mod Running
