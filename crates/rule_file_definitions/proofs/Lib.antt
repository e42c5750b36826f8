pub mod SmallTests
pub mod SoundEntries
pub mod SoundRules
pub mod SoundSets
