pub mod RecordsLeft
pub mod Rows
pub mod Kept
pub mod Answers
pub mod Parts
