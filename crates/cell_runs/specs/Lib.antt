pub mod Script
pub mod ScriptDatabase
pub mod Trace
