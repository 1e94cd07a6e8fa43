pub mod Due
pub mod Issues
pub mod Summary
pub mod Listed
pub mod Rows
pub mod Common
