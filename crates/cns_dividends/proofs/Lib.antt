pub mod Common
pub mod Places
pub mod Chosen
