pub mod Asking
pub mod Items
pub mod Laws
pub mod Replay
pub mod Schedules
pub mod Standings
