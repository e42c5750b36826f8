-- The JSON objects of a note by their parts, for private clauses.
use Rattle.std.specs.Prelude.{ℕ, List, [], map, codes, unwrap_or}
use Rattle.serde_json.specs.Data.{Data, string, object, no_members, member}
use Rattle.serde_json.specs.Find.{as_str}
use Rattle.serde_json.specs.View.{view}
use Rattle.serde_json.specs.declared.value.Value.{Value}
use Rattle.note_definitions.specs.NoteTexts.{counted}

-- the object of a step with these parts
abbrev pub segment_with : (at : ℕ) → (form : List ℕ) → (lead : ℕ) → (phase : List ℕ) → (rule : ℕ) → (tags : Data) → (taken : ℕ) → Data
segment_with at form lead phase rule tags taken =
    object (member (codes "at") (counted at)
    (member (codes "form") (string form)
    (member (codes "lead") (counted lead)
    (member (codes "phase") (string phase)
    (member (codes "rule") (counted rule)
    (member (codes "tags") tags
    (member (codes "taken") (counted taken) no_members)))))))

-- the object of a note with these parts
abbrev pub note_with : (choices segments : Data) → (text : List ℕ) → Data
note_with choices segments text =
    object (member (codes "choices") choices
    (member (codes "segments") segments
    (member (codes "text") (string text)
    (member (codes "version") (counted 1) no_members))))

-- the text that a value is, if it is one
abbrev pub text_in : Value → List ℕ
text_in value = unwrap_or (as_str (view value)) []

-- the texts that the values are
abbrev pub texts_in : List Value → List (List ℕ)
texts_in values = map text_in values
