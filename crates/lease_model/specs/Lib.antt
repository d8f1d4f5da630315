pub mod Invariant
pub mod Laws
pub mod Leases
pub mod Rules
pub mod Runs
