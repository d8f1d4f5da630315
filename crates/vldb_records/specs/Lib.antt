pub mod Changes
pub mod Ends
pub mod Listing
pub mod Records
pub mod Sought
