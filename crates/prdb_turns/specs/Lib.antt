pub mod Ends
pub mod Fronts
pub mod Owners
pub mod Refits
pub mod Renumbering
pub mod Turning
