pub mod SpelledTables
pub mod HarvardKyotoTable
pub mod IastTable
pub mod ReadSpellings
pub mod ComposedSpellings
pub mod ComposedLengths
