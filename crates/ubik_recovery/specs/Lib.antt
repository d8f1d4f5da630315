pub mod Record
pub mod Rules
pub mod Text
pub mod View
