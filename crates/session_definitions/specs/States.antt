-- What a session knows between two lines of its input (own).
use Rattle.std.specs.Prelude.{ℕ, ◌+◌, ◌-◌, min, Bool, Option, Some, None, List, [], ◌∷◌, ◌++◌, length, take}
use Rattle.text_definitions.specs.Lines.{Line}
use Rattle.lexicon_definitions.specs.Lexicons.{RuleSet}
use Rattle.segmentation_definitions.specs.declared.limits.TheConstants.{LAST_ANSWER_NUMBER}
use Rattle.segmentation_definitions.specs.Derivations.{Step}
use Rattle.segmentation_definitions.specs.Items.{Item, Choice}
use Rattle.segmentation_definitions.specs.Listings.{Cursor, BeforeFirst, AtAnswer, PastLast, cursor_after, Key, keys_of}
use Rattle.bookmark_definitions.specs.Bookmarks.{Bookmark}

-- a line of text, if one was given; the reader's choices, oldest first; the number of answers printed; the cursor at the last of
-- these, or before the first; and the summary, if it was printed
pub record State : Type 0 where
  pub line : Option Line
  pub choices : List Choice
  pub printed : ℕ
  pub cursor : Cursor
  pub summary : Option (List Item)

-- with this line, if there is one, and these choices, and nothing printed
abbrev pub fresh : Option Line → List Choice → State
fresh line choices =
    record { line = line; choices = choices; printed = 0; cursor = BeforeFirst; summary = None }

-- at the start there is no line, no choice, nothing printed and no summary
abbrev pub opening : State
opening = fresh None []

-- after these answers were printed; their number rises no more once it is the last one
abbrev pub after_answers : State → List (List Step) → State
after_answers state answers =
    record state { printed = min (state.printed + length answers) LAST_ANSWER_NUMBER; cursor = cursor_after state.cursor answers }

-- after this choice
abbrev pub after_choice : State → Bool → Item → State
after_choice state kept item = fresh state.line (state.choices ++ record { kept = kept; item = item } ∷ [])

-- without the newest choice
abbrev pub after_undo : State → State
after_undo state = fresh state.line (take (length state.choices - 1) state.choices)

-- with the line, the choices and the number of a bookmark, at this cursor
abbrev pub after_resume : Bookmark → Cursor → State
after_resume mark cursor =
    record { line = Some mark.line; choices = mark.choices; printed = mark.printed; cursor = cursor; summary = None }

-- the keys of the last answer printed; no keys before the first
abbrev pub keys_at : RuleSet → Cursor → List Key
keys_at rules BeforeFirst = []
keys_at rules (AtAnswer steps) = keys_of rules steps
keys_at rules PastLast = []

-- the bookmark of a state with this line
abbrev pub bookmark_at : RuleSet → State → Line → Bookmark
bookmark_at rules state line =
    record { line = line; choices = state.choices; printed = state.printed; keys = keys_at rules state.cursor }
