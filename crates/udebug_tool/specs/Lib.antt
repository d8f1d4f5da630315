pub mod Kinds
pub mod Looking
pub mod Seen
pub mod Texts
