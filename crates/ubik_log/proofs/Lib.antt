pub mod Fronts
pub mod Gates
pub mod KeptLogs
pub mod OneReading
pub mod Spelled
pub mod TornGates
pub mod WholeLogs
