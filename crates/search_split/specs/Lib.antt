pub mod Parts
pub mod NextFronts
pub mod Starts
pub mod PrintedPages
pub mod Listing
