pub mod Sizes
pub mod CommandLine
