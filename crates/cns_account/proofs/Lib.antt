pub mod Gathered
pub mod Named
pub mod AtPlaces
pub mod Summed
pub mod Recorded
pub mod Marked
pub mod AddingUp
pub mod Common
