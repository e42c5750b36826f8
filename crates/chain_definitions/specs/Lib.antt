pub mod Chains
pub mod JoinedChains
pub mod ChainFaults
pub mod ChainTexts
pub mod ChainReadings
