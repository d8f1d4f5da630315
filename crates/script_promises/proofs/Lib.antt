pub mod Copies
pub mod Proper
pub mod SingleStates
pub mod Worth
