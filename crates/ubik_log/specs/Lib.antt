pub mod Gate
pub mod Laws
pub mod LogFile
pub mod LogGrammar
pub mod Reading
pub mod Records
