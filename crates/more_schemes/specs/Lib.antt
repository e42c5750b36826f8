pub mod Schemes
pub mod Values
pub mod Runs
