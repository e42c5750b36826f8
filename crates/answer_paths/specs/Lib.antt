pub mod Fronts
pub mod Following
pub mod Cursors
pub mod Pages
