pub mod Used
pub mod Sides
pub mod Checks
