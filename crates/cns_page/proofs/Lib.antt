pub mod Gathered
pub mod MakeLemmas
pub mod Added
pub mod Common
