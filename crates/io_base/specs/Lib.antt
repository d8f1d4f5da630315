pub mod Clock
pub mod Frame
pub mod Link
pub mod MemLink
pub mod MemNet
pub mod Net
pub mod TcpLink
