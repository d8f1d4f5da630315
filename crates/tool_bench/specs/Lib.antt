pub mod Frames
pub mod ServiceLink
