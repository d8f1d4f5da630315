pub mod FirstPage
pub mod InOrder
pub mod Ranks
pub mod Told
