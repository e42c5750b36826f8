pub mod TextLemmas
pub mod PrintedFronts
pub mod PrintedPages
pub mod ListedAnswers
