pub mod Fields
pub mod Laws
pub mod Length
pub mod Reading
pub mod WireGrammar
