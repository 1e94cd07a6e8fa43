pub mod Logged
pub mod Seats
pub mod Handed
pub mod Parts
pub mod Worked
pub mod Promised
