pub mod NoteFaults
pub mod Notes
pub mod NoteTexts
pub mod NoteOutcomes
pub mod NoteShapes
pub mod NoteReadings
