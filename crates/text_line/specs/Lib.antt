pub mod Values
pub mod Pieces
