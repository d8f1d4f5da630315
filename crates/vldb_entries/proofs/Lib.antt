pub mod EntryAgain
pub mod HeadRead
pub mod Locations
pub mod Positions
pub mod Relocated
