-- What an auditing and a watching server tell.
pub mod CallWords
pub mod Changes
pub mod Entries
pub mod OpenCalls
