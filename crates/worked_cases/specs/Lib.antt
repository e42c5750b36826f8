pub mod WorkedLexicons
pub mod WorkedRuns
