pub mod Answers
pub mod Asking
pub mod Courses
pub mod Flags
pub mod Names
pub mod Pages
pub mod Plans
pub mod Texts
