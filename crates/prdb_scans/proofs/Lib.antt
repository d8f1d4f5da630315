pub mod Alike
pub mod Ids
pub mod FirstPage
pub mod Passed
pub mod Told
pub mod Whole
