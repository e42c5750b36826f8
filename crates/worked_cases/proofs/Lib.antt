pub mod Candidates
pub mod SmallAnswers
pub mod SmallLexicons
pub mod SmallListings
pub mod WrittenLexicons
pub mod SmallRuns
