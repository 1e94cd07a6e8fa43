pub mod Written
pub mod Digits
pub mod EscapeLemmas
pub mod Common
