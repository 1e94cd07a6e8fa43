pub mod Moves
pub mod Rows
pub mod Past
pub mod Fails
pub mod Dividends
pub mod Laws
pub mod Common
