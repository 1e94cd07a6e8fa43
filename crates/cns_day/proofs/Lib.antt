pub mod Gathered
pub mod Figured
pub mod Numbering
pub mod Common
