pub mod EntriesLemmas
pub mod FilesLemmas
pub mod ToldLemmas
