pub mod Records
pub mod TableFaults
pub mod TableFiles
pub mod StemFaults
pub mod StemFiles
