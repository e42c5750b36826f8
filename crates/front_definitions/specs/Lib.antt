pub mod NextOnes
pub mod Fronts
