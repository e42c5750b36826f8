pub mod ReadOnce
pub mod JoinedOnce
pub mod AnswerChains
pub mod FormTests
pub mod WrittenParts
pub mod WrittenChains
pub mod NamedChains
pub mod ReadChains
