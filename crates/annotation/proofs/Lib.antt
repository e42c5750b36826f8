mod FoundAnswers
mod WrittenObjects
mod WrittenSegments
mod WrittenNotes
mod ShapeTests
mod ChoicesRead
mod NotesRead
