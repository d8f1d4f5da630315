pub mod Incoming
pub mod Laws
pub mod Reading
