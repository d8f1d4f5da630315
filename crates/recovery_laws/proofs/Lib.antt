mod Events
pub mod Facts
pub mod Goes
mod Memory
mod Recovering
pub mod Spreading
mod Standing
