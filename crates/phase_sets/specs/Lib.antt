pub mod ListedPhases
