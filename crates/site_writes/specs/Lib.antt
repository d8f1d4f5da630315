pub mod OwnView
pub mod OwnWrite
pub mod Rules
pub mod Site
pub mod SiteView
