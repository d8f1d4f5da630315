pub mod Telling
pub mod Lines
pub mod Turning
pub mod Naming
