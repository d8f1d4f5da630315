pub mod Deciding
pub mod Under
