pub mod WordLists
pub mod WordCounts
pub mod CommandsRead
pub mod ClapSteps
pub mod ClapRows
pub mod ClapReads
pub mod ArgumentTurns
