pub mod PhaseAnalyses
pub mod SearchedForms
