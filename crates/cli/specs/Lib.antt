pub mod Ending
pub mod CommandLine
