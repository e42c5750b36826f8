-- What a line tells after those before it, or its first reason to be refused: each kind of line by itself (own).
use Rattle.std.specs.Prelude.{ℕ, ◌++◌, not, ◌||◌, nat_le, nat_lt, Bool, true, false, if◌then◌else◌, Option, Some, None, Result, Ok, Err, List, [], ◌∷◌, length}
use Rattle.std.specs.List.{list_any, position}
use Rattle.std.specs.Str.{bytes_eq, is_utf8}
use Rattle.std.specs.declared.cmp.Ordering.{Ordering}
use Rattle.std.specs.declared.cmp.Ordering.TheVariants.{Less, Equal, Greater}
use Rattle.text_definitions.specs.Spellings.{Reading}
use Rattle.text_definitions.specs.Slp1.{word_of_slp1}
use Rattle.lexicon_definitions.specs.declared.limits.TheConstants.{MOST_PHASES, MOST_RULES, MOST_RULE_LETTERS, MOST_LEADS, MOST_FORM_LETTERS, MOST_FORM_LINES}
use Rattle.lexicon_definitions.specs.Lexicons.{compare_pairs}
use Rattle.lexicon_definitions.specs.FormEntries.{Entry}
use Rattle.lexicon_text_definitions.specs.LexiconTexts.{head_line}
use Rattle.lexicon_text_definitions.specs.FileFaults as faults
use Rattle.lexicon_text_definitions.specs.FileFaults.{Why, Trailing, NoEnd, NotUtf8, Order, Field, Spelling, Strict, Limit, Twice, Falling}
use Rattle.lexicon_text_definitions.specs.FileLines.{Line, Parts, parts_of, fields_of, Kind, Opening, Head, Phase, Grammar, Plain, Rule, Form, End, kind_named, may_follow, Shape, shape_of}
use Rattle.lexicon_definitions.specs.PhaseNames.{is_phase_name}
use Rattle.lexicon_definitions.specs.Rules.{unlimited_rule}
use Rattle.list_laws.specs.EmptyLists.{is_empty}
use Rattle.lexicon_text_definitions.specs.FileContents.{compare_entries, Told, is_tag_text, compare_last, has_triple, with_v, different_v}

-- what is told after a line, or why the line is refused
abbrev pub Taken : Type 0
Taken = Result Told Why

-- refused where the new one is not above the last of its kind
abbrev pub if_rising : Ordering → Told → Taken
if_rising Less told = Ok told
if_rising Equal told = Err Twice
if_rising Greater told = Err Falling

-- ---- `phase NAME`

abbrev pub take_name : Told → List ℕ → Taken
take_name told name =
    if nat_le MOST_PHASES (length told.names) then Err Limit
    else if list_any (bytes_eq name) told.names then Err Twice
    else Ok (record told { last = Phase; names = told.names ++ name ∷ [] })

unfoldable pub take_phase : Told → List (List ℕ) → Taken
take_phase told (name ∷ []) = if is_phase_name name then take_name told name else Err Field
take_phase told fields = Err Field

-- ---- `grammar TEXT`: the text is what comes after the first blank, whatever blanks it has

unfoldable pub take_grammar : Told → Option (List ℕ) → Taken
take_grammar told None = Err Field
take_grammar told (Some text) = Ok (record told { last = Grammar; grammar = text })

-- ---- `plain X Y`

-- the word's one letter
abbrev pub one_letter : Reading → Option ℕ
one_letter (Ok (letter ∷ [])) = Some letter
one_letter reading = None

abbrev pub take_letters : Told → Option ℕ → Option ℕ → Taken
take_letters told (Some x) (Some y) =
    if_rising (compare_last compare_pairs told.plain (x, y))
    (record told { last = Plain; plain = told.plain ++ (x, y) ∷ [] })
take_letters told x y = Err Spelling

unfoldable pub take_plain : Told → List (List ℕ) → Taken
take_plain told (x ∷ y ∷ []) = take_letters told (one_letter (word_of_slp1 x)) (one_letter (word_of_slp1 y))
take_plain told fields = Err Field

-- ---- `rule u|v>w`

-- with this rule there are too many rules or leads, or a part of it is too long
abbrev pub passes_rule_limits : Told → List ℕ → List ℕ → List ℕ → Bool
passes_rule_limits told u v w =
    nat_le MOST_RULES (length told.rules)
    || nat_lt MOST_LEADS (length (with_v (different_v told.rules) v))
    || nat_lt MOST_RULE_LETTERS (length u) || nat_lt MOST_RULE_LETTERS (length v) || nat_lt MOST_RULE_LETTERS (length w)

abbrev pub take_triple : Told → List ℕ → List ℕ → List ℕ → Taken
take_triple told u v w =
    if is_empty u || is_empty w then Err Strict
    else if passes_rule_limits told u v w then Err Limit
    else if list_any (has_triple u v w) told.rules then Err Twice
    else Ok (record told { last = Rule; rules = told.rules ++ unlimited_rule (length told.names) u v w ∷ [] })

abbrev pub take_words : Told → Reading → Reading → Reading → Taken
take_words told (Ok u) (Ok v) (Ok w) = take_triple told u v w
take_words told u v w = Err Spelling

abbrev pub take_shape : Told → Option Shape → Taken
take_shape told None = Err Field
take_shape told (Some shape) = take_words told (word_of_slp1 shape.u) (word_of_slp1 shape.v) (word_of_slp1 shape.w)

unfoldable pub take_rule : Told → List (List ℕ) → Taken
take_rule told (field ∷ []) = take_shape told (shape_of field)
take_rule told fields = Err Field

-- ---- `form PHASE FORM STEM TAG`

-- the word, where it is not empty
abbrev pub some_word : Reading → Option (List ℕ)
some_word (Ok (letter ∷ word)) = Some (letter ∷ word)
some_word reading = None

-- with this line there are too many, or its form or its stem is too long
abbrev pub passes_form_limits : Told → Entry → Bool
passes_form_limits told line =
    nat_le MOST_FORM_LINES (length told.forms)
    || nat_lt MOST_FORM_LETTERS (length line.letters) || nat_lt MOST_FORM_LETTERS (length line.analysis.stem)

abbrev pub take_form_line : Told → Entry → Taken
take_form_line told line =
    if passes_form_limits told line then Err Limit
    else if_rising (compare_last compare_entries told.forms line)
    (record told { last = Form; forms = told.forms ++ line ∷ [] })

abbrev pub take_analysis : Told → ℕ → List ℕ → Option (List ℕ) → Option (List ℕ) → Taken
take_analysis told phase tag (Some letters) (Some stem) =
    take_form_line told (record { phase = phase; letters = letters; analysis = record { stem = stem; tag = tag } })
take_analysis told phase tag letters stem = Err Spelling

abbrev pub take_entry : Told → Option ℕ → List ℕ → List ℕ → List ℕ → Taken
take_entry told None letters stem tag = Err Field
take_entry told (Some phase) letters stem tag =
    if is_tag_text tag
    then take_analysis told phase tag (some_word (word_of_slp1 letters)) (some_word (word_of_slp1 stem))
    else Err Field

unfoldable pub take_form : Told → List (List ℕ) → Taken
take_form told (name ∷ letters ∷ stem ∷ tag ∷ []) =
    take_entry told (position (bytes_eq name) told.names) letters stem tag
take_form told fields = Err Field

-- ---- `end`

unfoldable pub take_end : Told → Option (List ℕ) → Taken
take_end told None = Ok (record told { last = End })
take_end told (Some rest) = Err Field

-- ---- any line

abbrev pub take_kind : Told → Kind → Option (List ℕ) → Taken
take_kind told Phase rest = take_phase told (fields_of rest)
take_kind told Grammar rest = take_grammar told rest
take_kind told Plain rest = take_plain told (fields_of rest)
take_kind told Rule rest = take_rule told (fields_of rest)
take_kind told Form rest = take_form told (fields_of rest)
take_kind told End rest = take_end told rest
take_kind told kind rest = Err Order

abbrev pub take_named : Told → Option Kind → Option (List ℕ) → Taken
take_named told None rest = Err Order
take_named told (Some kind) rest = if may_follow told.last kind then take_kind told kind rest else Err Order

abbrev pub take_parts : Told → Parts → Taken
take_parts told parts = take_named told (kind_named parts.kind) parts.rest

-- the first line
abbrev pub take_head : Told → List ℕ → Taken
take_head told bytes = if bytes_eq bytes head_line then Ok (record told { last = Head }) else Err faults.Head

-- nothing may come after the last line; before the first, nothing was told
abbrev pub take_bytes : Kind → Told → List ℕ → Taken
take_bytes Opening told bytes = take_head told bytes
take_bytes last told bytes = take_parts told (parts_of bytes)

abbrev pub is_last : Kind → Bool
is_last End = true
is_last kind = false

-- what is told after a line, where these told this before it
unfoldable pub take_line : Told → Line → Taken
take_line told line =
    if is_last told.last then Err Trailing
    else if not line.ended then Err NoEnd
    else if not (is_utf8 line.bytes) then Err NotUtf8
    else take_bytes told.last told line.bytes
