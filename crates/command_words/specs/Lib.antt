pub mod Meant
pub mod Turns
pub mod ClapLine
