pub mod Flight
pub mod Pending
pub mod Reading
pub mod Undo
pub mod View
