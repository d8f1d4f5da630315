pub mod Forms
pub mod Location
