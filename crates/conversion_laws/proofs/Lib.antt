pub mod LeastLines
pub mod MarkSigns
pub mod CutTexts
pub mod SameSigns
pub mod PrintedWords
pub mod WrittenBytes
pub mod ConvertedLines
