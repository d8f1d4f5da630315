-- What a server shows of its files, how it ends for its words, what is seen of the cause of another end, and that it explains the end.
pub mod Explaining
pub mod Filling
pub mod InMemory
pub mod Replaying
pub mod Seeing
pub mod Showing
pub mod Timing
pub mod Wording
