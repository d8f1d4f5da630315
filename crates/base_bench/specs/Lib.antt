pub mod Blocks
pub mod LongAsk
pub mod Numbers
pub mod Puts
