-- The text of a bookmark: `1;LINE;CHOICES;PRINTED;KEYS` (own).
use Rattle.std.specs.Prelude.{ℕ, ◌-◌, if◌then◌else◌, List, [], ◌∷◌, ◌++◌, map, take, drop, codes}
use Rattle.std.specs.List.{join_with_byte}
use Rattle.std.specs.Fmt.{decimal}
use Rattle.text_definitions.specs.Slp1.{slp1_of_word}
use Rattle.text_definitions.specs.Lines.{Line}
use Rattle.segmentation_definitions.specs.Items.{Item, Choice}
use Rattle.segmentation_definitions.specs.Listings.{Key}
use Rattle.bookmark_definitions.specs.Bookmarks.{Bookmark}

-- the letters of a line from this place on, cut at each of these blanks
abbrev pub words_from : ℕ → List ℕ → List ℕ → List (List ℕ)
words_from place [] letters = letters ∷ []
words_from place (blank ∷ blanks) letters =
    take (blank - place) letters ∷ words_from blank blanks (drop (blank - place) letters)

-- the letters of a line in SLP1, with `_` at each blank
abbrev pub text_of_line : Line → List ℕ
text_of_line line = join_with_byte 95 (map slp1_of_word (words_from 0 line.blanks line.letters))

-- `AT.LEAD.PHASE.FORM`, the form in SLP1
abbrev pub text_of_item : Item → List ℕ
text_of_item item =
    join_with_byte 46 (decimal item.at ∷ decimal item.lead ∷ decimal item.phase ∷ slp1_of_word item.form ∷ [])

-- `+` for a choice that keeps its item, `-` for one that rejects it; and then the item
abbrev pub text_of_choice : Choice → List ℕ
text_of_choice choice = (if choice.kept then codes "+" else codes "-") ++ text_of_item choice.item

-- `PHASE.TAKEN.RULE`
abbrev pub text_of_key : Key → List ℕ
text_of_key key = join_with_byte 46 (decimal key.phase ∷ decimal key.taken ∷ decimal key.rule ∷ [])

-- the text of a bookmark: `1`, its line, its choices with `,` between, the number printed, and its keys with `,` between,
-- all these with `;` between
unfoldable pub text_of_bookmark : Bookmark → List ℕ
text_of_bookmark mark =
    join_with_byte 59
    (codes "1" ∷ text_of_line mark.line ∷ join_with_byte 44 (map text_of_choice mark.choices) ∷ decimal mark.printed
    ∷ join_with_byte 44 (map text_of_key mark.keys) ∷ [])
