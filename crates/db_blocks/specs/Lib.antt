pub mod Ascending
pub mod Blocks
pub mod Bytes
pub mod Ends
pub mod Kept
