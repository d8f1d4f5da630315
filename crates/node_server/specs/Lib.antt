-- How a server ends, and what shows why.
pub mod Causes
pub mod Ends
pub mod Moments
pub mod Replays
