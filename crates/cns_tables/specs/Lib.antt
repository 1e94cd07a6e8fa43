pub mod Escape
pub mod Grouped
pub mod Pieces
pub mod Tables
