pub mod Causes
pub mod Client
pub mod Debugs
pub mod Explained
pub mod Hosts
pub mod Questions
pub mod Requests
