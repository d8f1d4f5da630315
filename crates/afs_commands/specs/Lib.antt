-- The words that commands are read from.
pub mod Accesses
pub mod Forms
pub mod Names
pub mod Partitions
