pub mod AnswerLaws
pub mod Again
pub mod EntriesAgain
pub mod EntriesTaken
pub mod Taken
pub mod WordCalls
