pub mod Asked
pub mod Looked
