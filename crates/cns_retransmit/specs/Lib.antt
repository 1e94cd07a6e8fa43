pub mod Common
pub mod Calls
pub mod Charges
pub mod Chosen
pub mod Days
pub mod Members
