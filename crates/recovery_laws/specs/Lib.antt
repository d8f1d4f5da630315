pub mod HasNoWrite
pub mod Memory
pub mod Stands
pub mod Spreads
