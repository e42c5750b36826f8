pub mod PartsInTurn
pub mod ListedNames
