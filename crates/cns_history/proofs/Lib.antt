pub mod Limits
pub mod Passed
pub mod Owned
pub mod Adding
pub mod Common
