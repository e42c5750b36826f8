pub mod Bounds
pub mod Marks
pub mod NodeDepths
pub mod NumberSets
pub mod LettersPut
pub mod PutBack
