pub mod AllowedPairLaws
pub mod LeadSearches
pub mod PhaseBits
pub mod TripleLemmas
