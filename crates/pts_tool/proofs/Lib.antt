pub mod Asked
pub mod Made
pub mod Named
pub mod Paged
pub mod Spelling
pub mod Translated
pub mod Worked
