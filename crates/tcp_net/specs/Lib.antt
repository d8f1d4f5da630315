pub mod Frames
pub mod Inputs
pub mod Origins
pub mod Queues
