pub mod Asks
pub mod Blocks
pub mod Numbers
pub mod Puts
pub mod Steps
