pub mod Calling
pub mod Commanding
pub mod Hosts
pub mod Listening
pub mod Saying
pub mod Walking
pub mod Working
