pub mod Ranges
pub mod Cents
pub mod Cusip
pub mod Day
pub mod Output
pub mod Words
