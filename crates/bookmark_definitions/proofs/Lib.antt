pub mod JoinedTexts
pub mod NumbersAndWords
pub mod WrittenLines
pub mod WrittenParts
pub mod WrittenBookmarks
pub mod BookmarkLengths
