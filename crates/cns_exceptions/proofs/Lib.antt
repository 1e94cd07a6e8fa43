mod Blocks
pub mod DaysLemmas
pub mod Gathered
pub mod PlayLemmas
pub mod AcceptedLemmas
pub mod Shown
pub mod Common
