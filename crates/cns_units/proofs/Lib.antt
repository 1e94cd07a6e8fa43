pub mod OutputLemmas
pub mod CusipLemmas
pub mod CentsLemmas
pub mod DayLemmas
pub mod CusipOrder
pub mod CusipWeights
pub mod Parts
mod Quotients
pub mod Common
