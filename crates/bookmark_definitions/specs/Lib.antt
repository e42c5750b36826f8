pub mod Bookmarks
pub mod BookmarkTexts
pub mod BookmarkReadings
