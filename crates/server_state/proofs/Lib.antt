pub mod KeptWrites
pub mod Plain
pub mod Polled
pub mod Sending
pub mod WritePackets
pub mod Writes
