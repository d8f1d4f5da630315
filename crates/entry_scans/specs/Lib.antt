pub mod Found
pub mod Lists
pub mod Pages
pub mod Sought
pub mod Views
