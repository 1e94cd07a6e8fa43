pub mod Noticed
pub mod Latest
pub mod Kept
