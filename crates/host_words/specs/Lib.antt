-- Hosts, as the words of commands name them.
pub mod Hosts
