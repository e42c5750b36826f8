-- What resuming at a bookmark gives (own).
use Rattle.std.specs.Prelude.{◌≡◌, ◌≢◌, ℕ, ◌<◌, Option, Some, None, List, [], ◌∷◌, length, All}
use Rattle.std.specs.Option.{option_map}
use Rattle.std.specs.Global.{Box, Vec}
use Rattle.text_definitions.specs.Lines.{Line}
use Rattle.lexicon_definitions.specs.Lexicons.{Lexicon}
use Rattle.segmentation_definitions.specs.Items.{Choice}
use Rattle.segmentation_definitions.specs.Listings.{Cursor, Key}
use Rattle.derivation.specs.declared.step.Step.{Step as ProgramStep}
use Rattle.derivation.specs.declared.step.Key.{Key as ProgramKey}
use Rattle.annotated_trie.specs.Searched.{SearchedLexicon}
use Rattle.derivation.specs.Steps.{keys_meant}
use Rattle.bookmark_definitions.specs.Bookmarks.{Bookmark, IsBookmark}
use Rattle.bookmarks.specs.declared.bookmark.Bookmark.{Bookmark as ProgramBookmark}
use Rattle.bookmarks.specs.Values.{bookmark_of}
use Rattle.search_frames.specs.declared.resumption.Resumption.{Resumption}
use Rattle.segmenter.specs.Searches.{SearchValue, IsCurrent, AreNoKeys, StandsAtKeys, StandsWhere}
use Rattle.session_definitions.specs.States.{after_resume}
use Rattle.session_definitions.specs.Replies.{IsCursorOfBookmark}
use Rattle.reader_session.specs.declared.reading.Reading.{Reading}
use Rattle.reader_session.specs.Readings.{IsReading, state_with}

-- the lexicon has the phase of the item of each choice
abbrev pub HasPhases : Lexicon → List Choice → Type 0
HasPhases lexicon choices = All (λ choice. choice.item.phase < length lexicon.phases) choices

-- the bookmark is one over the lexicon at this cursor, and the line is read on from there
pub record IsResumedAt (searched : SearchedLexicon) (mark : Bookmark) (reading : Reading) (cursor : Cursor) : Type 0 where
  pub is_reading : IsReading searched reading
  pub is_cursor : IsCursorOfBookmark searched.lexicon mark cursor
  pub state : state_with searched.lexicon.rules reading ≡ after_resume mark cursor

-- the line is read on from the bookmark; or nothing is read, and the bookmark is not one over the lexicon
abbrev pub IsResumed : SearchedLexicon → Bookmark → Option Reading → Type 0
IsResumed searched mark None = (cursor : Cursor) → IsCursorOfBookmark searched.lexicon mark cursor → ⊥
IsResumed searched mark (Some reading) = (cursor : Cursor) × IsResumedAt searched mark reading cursor

-- these are the program's steps of the answer at which the search stands; no steps where it stands at no answer
abbrev pub IsLastOf : SearchValue → List ProgramStep → Type 0
IsLastOf search [] = IsCurrent search None
IsLastOf search (step ∷ steps) = IsCurrent search (Some (step ∷ steps))

-- a search over the line with these choices stands at the keys, where the stack is, and at the answer with these last steps
pub record IsStackFor (searched : SearchedLexicon) (line : Line) (choices : List Choice) (keys : List Key) (stack : Resumption)
    (last : List ProgramStep) : Type 0 where
  pub search : SearchValue
  pub over : search ≡ record { searched = searched; line = line; choices = choices; cursor = search.cursor }
  pub at : StandsAtKeys search keys
  pub is_last : IsLastOf search last
  pub stands : StandsWhere search stack

-- the same; or nothing was found, since there are keys, and they are those of no answer
abbrev pub IsStackAt : SearchedLexicon → Line → List Choice → List ProgramKey → Option (Resumption × Vec ProgramStep) → Type 0
IsStackAt searched line choices keys None = (keys ≢ []) × AreNoKeys searched line choices (keys_meant keys)
IsStackAt searched line choices keys (Some found) = IsStackFor searched line choices (keys_meant keys) found.0 found.1.items

-- the bookmark with these parts
abbrev pub mark_with : Line → List Choice → ℕ → List ProgramKey → Bookmark
mark_with line choices printed keys = record { line = line; choices = choices; printed = printed; keys = keys_meant keys }

-- the bookmark that was read, if any, is one
abbrev pub IsMark : Option (Box ProgramBookmark) → Type 0
IsMark None = Unit {0}
IsMark (Some mark) = IsBookmark (bookmark_of mark.value)

abbrev pub value_of_mark : Option (Box ProgramBookmark) → Option Bookmark
value_of_mark mark = option_map (λ mark. bookmark_of mark.value) mark
