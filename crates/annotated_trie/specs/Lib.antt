pub mod AlikePhases
pub mod Choices
pub mod RuleGroups
pub mod RuleParts
pub mod Searched
pub mod Suffixes
pub mod Views
