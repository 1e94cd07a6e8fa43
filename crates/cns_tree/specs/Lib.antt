pub mod Common
pub mod Apart
pub mod Boxes
pub mod Changes
pub mod Counted
pub mod Pending
pub mod Search
pub mod Shape
