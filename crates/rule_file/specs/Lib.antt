pub mod Faults
pub mod Held
pub mod Written
pub mod Triples
