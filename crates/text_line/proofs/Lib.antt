pub mod Fronts
pub mod NumbersRead
pub mod Steps
pub mod Encodings
pub mod FaultsTold
