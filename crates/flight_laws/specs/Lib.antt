pub mod Flights
pub mod Taken
