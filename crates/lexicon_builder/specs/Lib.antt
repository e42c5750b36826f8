pub mod Sources
pub mod Collected
