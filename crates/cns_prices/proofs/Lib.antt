pub mod Common
pub mod Quoted
pub mod Next
