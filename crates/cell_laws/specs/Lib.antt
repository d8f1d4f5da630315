pub mod Invariant
pub mod Laws
pub mod View
