pub mod Pages
pub mod Inputs
