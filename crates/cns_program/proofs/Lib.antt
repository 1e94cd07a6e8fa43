pub mod Common
pub mod EndLemmas
pub mod EndsTold
pub mod Tallied
pub mod CommandLine
pub mod Opened
