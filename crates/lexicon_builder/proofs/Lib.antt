pub mod EntriesAdded
pub mod SortedEntries
pub mod CollectedLists
pub mod Limits
pub mod SourcesRead
pub mod BuiltLexicons
