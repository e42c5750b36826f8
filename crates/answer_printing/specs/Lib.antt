pub mod Texts
pub mod Fronts
pub mod Pages
pub mod Turns
