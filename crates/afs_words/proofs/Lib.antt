pub mod Answering
pub mod Giving
pub mod Inside
pub mod Judging
pub mod Refusing
pub mod Required
pub mod Shapes
pub mod Written
