pub mod Costs
pub mod Ends
pub mod Owned
pub mod Pages
pub mod States
