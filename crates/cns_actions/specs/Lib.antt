pub mod Common
pub mod Booked
pub mod Bookings
pub mod Changes
pub mod Holding
pub mod DueAmounts
