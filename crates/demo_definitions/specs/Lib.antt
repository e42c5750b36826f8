pub mod Draws
pub mod DrawnStems
pub mod DrawnTexts
pub mod SourceTexts
pub mod SourceContents
