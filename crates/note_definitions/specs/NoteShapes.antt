-- The shape of a note: which members its JSON value has, and of which kind each is (own). A name that stands twice in a JSON
-- object holds what the last of them has, and other members are in the order of their names, whatever their order was.
use Rattle.std.specs.Prelude.{ℕ, ◌==◌, ◌&&◌, nat_le, Bool, true, false, if◌then◌else◌, Option, Some, None, List, [], ◌∷◌, codes}
use Rattle.std.specs.List.{list_any}
use Rattle.std.specs.Str.{bytes_eq}
use Rattle.serde_json.specs.Data.{Data, number, unsigned, string, array, object, Items, no_items, item, Members, no_members, member}
use Rattle.serde_json.specs.Find.{get_member}
use Rattle.note_definitions.specs.declared.limits.TheConstants.{MOST_NOTE_NUMBER}

-- the texts under `text` and `choices`
pub record NoteParts : Type 0 where
  pub text : List ℕ
  pub choices : List (List ℕ)

-- each member of an object has one of these names
abbrev pub has_only : List (List ℕ) → Members → Bool
has_only names no_members = true
has_only names (member name held rest) = list_any (bytes_eq name) names && has_only names rest

-- ---- what a name holds

-- a number that is written in digits alone, and is not too great; a number with a sign, a point or an exponent is read as
-- another kind of number
abbrev pub is_number : Option Data → Bool
is_number (Some (number (unsigned n))) = nat_le n MOST_NOTE_NUMBER
is_number held = false

-- the number 1
abbrev pub is_one : Option Data → Bool
is_one (Some (number (unsigned n))) = n == 1
is_one held = false

-- a text
abbrev pub as_text : Option Data → Option (List ℕ)
as_text (Some (string text)) = Some text
as_text held = None

abbrev pub is_text : Option Data → Bool
is_text (Some (string text)) = true
is_text held = false

-- a text before others, where these are texts
abbrev pub with_text : List ℕ → Option (List (List ℕ)) → Option (List (List ℕ))
with_text text None = None
with_text text (Some texts) = Some (text ∷ texts)

-- the texts of a list in which each item is one
abbrev pub texts_of : Items → Option (List (List ℕ))
texts_of no_items = Some []
texts_of (item (string text) rest) = with_text text (texts_of rest)
texts_of (item held rest) = None

-- a list of texts
abbrev pub as_texts : Option Data → Option (List (List ℕ))
as_texts (Some (array items)) = texts_of items
as_texts held = None

abbrev pub is_some_texts : Option (List (List ℕ)) → Bool
is_some_texts (Some texts) = true
is_some_texts None = false

-- ---- segments

-- the names of a segment's members
abbrev pub segment_names : List (List ℕ)
segment_names =
    codes "at" ∷ codes "form" ∷ codes "lead" ∷ codes "phase" ∷ codes "rule" ∷ codes "tags" ∷ codes "taken" ∷ []

-- an object with exactly these members: numbers, texts and a list of texts
abbrev pub is_segment : Data → Bool
is_segment (object members) =
    has_only segment_names members
    && is_number (get_member (codes "at") members) && is_text (get_member (codes "form") members)
    && is_number (get_member (codes "lead") members) && is_text (get_member (codes "phase") members)
    && is_number (get_member (codes "rule") members) && is_some_texts (as_texts (get_member (codes "tags") members))
    && is_number (get_member (codes "taken") members)
is_segment held = false

abbrev pub are_segments : Items → Bool
are_segments no_items = true
are_segments (item held rest) = is_segment held && are_segments rest

-- a list of segments
abbrev pub is_segments : Option Data → Bool
is_segments (Some (array items)) = are_segments items
is_segments held = false

-- ---- notes

-- the names of a note's members
abbrev pub note_names : List (List ℕ)
note_names = codes "choices" ∷ codes "segments" ∷ codes "text" ∷ codes "version" ∷ []

-- the parts with this text and these choices, where both are there
abbrev pub parts_with : Option (List ℕ) → Option (List (List ℕ)) → Option NoteParts
parts_with (Some text) (Some choices) = Some (record { text = text; choices = choices })
parts_with text choices = None

-- the parts of an object with exactly the members of a note, of the right kinds, of which `version` is 1
abbrev pub parts_of_members : Members → Option NoteParts
parts_of_members members =
    if has_only note_names members && is_segments (get_member (codes "segments") members)
    && is_one (get_member (codes "version") members)
    then parts_with (as_text (get_member (codes "text") members)) (as_texts (get_member (codes "choices") members))
    else None

-- the parts of a value that has the shape of a note; None where it has not
unfoldable pub parts_of_value : Data → Option NoteParts
parts_of_value (object members) = parts_of_members members
parts_of_value value = None
