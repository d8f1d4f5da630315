pub mod Changes
pub mod Costs
pub mod Ends
pub mod Found
pub mod Moves
pub mod Owned
pub mod Sides
