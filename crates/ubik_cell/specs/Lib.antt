pub mod Disks
pub mod Headline
pub mod LineRuns
pub mod Lines
pub mod OnDisk
pub mod Runs
pub mod ScriptRuns
pub mod Turns
