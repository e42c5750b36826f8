pub mod Faults
pub mod Joining
pub mod Triples
pub mod Shapes
