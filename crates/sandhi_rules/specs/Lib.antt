pub mod AllowedPairs
pub mod LeadPlaces
pub mod Triples
