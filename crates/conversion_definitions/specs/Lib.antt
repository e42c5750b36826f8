pub mod AnySchemes
pub mod Marks
pub mod Conversions
