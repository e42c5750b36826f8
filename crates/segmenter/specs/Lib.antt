pub mod Chains
pub mod Searches
pub mod GivenKeys
pub mod Moves
pub mod Skips
pub mod MoveCosts
