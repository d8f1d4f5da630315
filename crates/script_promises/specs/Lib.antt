pub mod Databases
pub mod Kept
pub mod Lawful
pub mod Order
pub mod Promises
pub mod Replies
