pub mod Texts
pub mod Packs
pub mod Promised
