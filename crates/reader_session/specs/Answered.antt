-- What a request was answered (own).
use Rattle.std.specs.Prelude.{◌≡◌, ℕ, ◌^◌, ◌<◌, Option, Result, Ok, Err, List, ◌++◌, length}
use Rattle.std.specs.Global.{Box}
use Rattle.annotated_trie.specs.Searched.{SearchedLexicon}
use Rattle.session_definitions.specs.Replies.{Reply}
use Rattle.reader_session.specs.declared.request.Request.{Request}
use Rattle.reader_session.specs.declared.request.Request.TheVariants.{Text, Page, Summary, Choose, Undo, Tags, Mark, Resume, Quit, NoWord}
use Rattle.reader_session.specs.declared.after.After.{After}
use Rattle.reader_session.specs.declared.after.After.TheVariants.{Open}
use Rattle.reader_session.specs.declared.reading.Reading.{Reading}
use Rattle.reader_session.specs.Readings.{IsReadingOver, state_of}
use Rattle.reader_session.specs.SessionValues.{stands_after}

-- such a reply was appended, and the session stands as it says
pub record Answered (searched : SearchedLexicon) (IsIt : Reply → Type 0) (before now : List ℕ) (result : Option (Box Reading) × After) : Type 0 where
  pub reply : Reply
  pub is_it : IsIt reply
  pub bytes : now ≡ before ++ reply.bytes
  pub is_reading : IsReadingOver searched result.0
  pub stands : reply.after ≡ stands_after result.1 (state_of searched.lexicon.rules result.0)

-- a text that is to be read is short enough that its bytes can be counted
abbrev pub HasShortText : Request → Type 0
HasShortText (Text scheme text) = length text.now < 2 ^ 32
HasShortText (Page count) = Unit {0}
HasShortText Summary = Unit {0}
HasShortText (Choose kept number) = Unit {0}
HasShortText Undo = Unit {0}
HasShortText (Tags number) = Unit {0}
HasShortText Mark = Unit {0}
HasShortText (Resume mark) = Unit {0}
HasShortText Quit = Unit {0}
HasShortText NoWord = Unit {0}

-- what was replied, after which the session goes on
abbrev pub opened : {E : Type 0} → Result (Option (Box Reading)) E → Result (Option (Box Reading) × After) E
opened (Ok reading) = Ok (reading, Open)
opened (Err error) = Err error
