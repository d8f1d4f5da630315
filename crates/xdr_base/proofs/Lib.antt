pub mod OneReading
pub mod Padding
pub mod ReadBack
