pub mod Common
pub mod Lines
pub mod Entries
pub mod Words
pub mod Texts
pub mod Laws
