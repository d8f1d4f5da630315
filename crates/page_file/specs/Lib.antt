pub mod Fault
pub mod Kept
pub mod Label
pub mod Pages
pub mod View
