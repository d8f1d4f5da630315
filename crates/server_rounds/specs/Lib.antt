-- Moments of a clock, the rounds of a worker, and what a post in memory gives.
pub mod Clock
pub mod MemPost
pub mod Round
