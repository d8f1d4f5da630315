pub mod Lines
pub mod LineLaws
pub mod LineSteps
pub mod Meaning
pub mod Reader
pub mod ScriptLaws
pub mod Words
pub mod Write
