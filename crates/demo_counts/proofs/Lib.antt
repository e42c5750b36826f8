pub mod DrawnLemmas
pub mod PassedAnswers
pub mod InputsRead
pub mod ErrorsRead
pub mod InputsMade
