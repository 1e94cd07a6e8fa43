pub mod Common
pub mod CommandLine
pub mod Asks
pub mod Faults
pub mod Lines
pub mod Tally
pub mod Days
pub mod Ends
