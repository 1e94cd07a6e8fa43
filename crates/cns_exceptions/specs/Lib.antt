pub mod Days
pub mod Survey
pub mod Accepted
pub mod Facts
pub mod Exceptions
pub mod Counts
pub mod Common
