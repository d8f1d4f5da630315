pub mod FrameBack
mod NoneBegins
mod PacketLength
pub mod ReadBack
pub mod Taken
pub mod Written
