pub mod Overlaps
pub mod Matches
pub mod Appending
pub mod Walks
