pub mod Kinds
pub mod Fields
pub mod Faults
pub mod Words
pub mod Told
pub mod Contents
pub mod Added
pub mod LimitedRules
