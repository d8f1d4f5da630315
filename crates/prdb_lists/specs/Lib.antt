pub mod Found
pub mod Blocks
pub mod Members
pub mod Lists
pub mod Layout
pub mod Changes
pub mod Moves
pub mod Sides
