pub mod Analyses
pub mod Entries
pub mod Dots
pub mod Ranks
pub mod TagTexts
pub mod TagWords
