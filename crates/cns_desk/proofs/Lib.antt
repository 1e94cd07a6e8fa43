pub mod Common
pub mod Handing
pub mod Differences
pub mod SoFar
pub mod Joined
pub mod Crossing
