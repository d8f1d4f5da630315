pub mod Answers
pub mod Greatest
pub mod View
pub mod Voter
