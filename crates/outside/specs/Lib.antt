pub mod Adapters
pub mod Answers
pub mod Counts
pub mod Entries
pub mod Files
pub mod Numbers
pub mod States
pub mod Told
