pub mod SchemeSteps
pub mod Entries
pub mod ComposedTexts
pub mod MarkFronts
pub mod ConversionSteps
pub mod RunFaults
pub mod ConvertedLines
pub mod SpelledBytes
