pub mod Common
pub mod Digits
pub mod Line
pub mod Text
pub mod Output
pub mod Replay
pub mod Records
pub mod Source
