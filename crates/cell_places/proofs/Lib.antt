mod Asking
pub mod Hosts
mod Placed
mod Placing
