pub mod LexiconTexts
pub mod FileFaults
pub mod FileLines
pub mod FileContents
pub mod FileSteps
pub mod FileReadings
pub mod TextsOf
