pub mod NumberLaws
pub mod NumberReading
