pub mod Inflections
pub mod JoinedExists
pub mod JoinedWord
pub mod NasalReach
