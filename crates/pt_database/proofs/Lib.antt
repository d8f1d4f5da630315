pub mod Costs
pub mod Keyed
pub mod Lawful
pub mod Served
