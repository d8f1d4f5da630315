pub mod Items
pub mod Laws
pub mod Lists
pub mod Reading
pub mod Shown
pub mod Words
