-- How a server ends, what its program prints then, and its words.
pub mod Ends
pub mod Words
