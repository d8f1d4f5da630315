pub mod Keeping
pub mod Lines
pub mod Memory
pub mod Spreads
pub mod Texts
