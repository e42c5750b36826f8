pub mod OnlyAnswers
pub mod OneOutcome
pub mod ReadOnce
pub mod ReadNotes
mod EndedTexts
mod WrittenValues
mod PlacedBounds
mod PlainTexts
mod NoteValues
mod NoteShapesWritten
pub mod NotesBack
