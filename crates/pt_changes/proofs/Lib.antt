pub mod Decided
pub mod Deleted
pub mod Frames
pub mod Left
pub mod Listed
pub mod Owned
pub mod Paired
pub mod Parted
