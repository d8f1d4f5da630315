pub mod AnswerLaws
pub mod Again
pub mod Steps
pub mod Taken
pub mod WordCalls
