mod Starts
mod Supported
