-- What the lines of a lexicon file tell (own).
use Rattle.std.specs.Prelude.{ℕ, ◌+◌, ◌==◌, ◌++◌, ◌&&◌, ◌||◌, Bool, false, if◌then◌else◌, List, [], ◌∷◌, length, replicate, map}
use Rattle.std.specs.List.{list_any, slice_split}
use Rattle.std.specs.Str.{bytes_eq}
use Rattle.std.specs.declared.cmp.Ordering.{Ordering}
use Rattle.std.specs.declared.cmp.Ordering.TheVariants.{Less}
use Rattle.std.specs.Ordering.{nat_cmp, ordering_then}
use Rattle.list_laws.specs.EmptyLists.{is_empty}
use Rattle.text_definitions.specs.Words.{compare_words}
use Rattle.lexicon_definitions.specs.Analyses.{Analysis, compare_analyses}
use Rattle.lexicon_definitions.specs.Tags.{genders, numbers, cases, tenses, voices, persons, lone_words}
use Rattle.lexicon_definitions.specs.Rules.{Rule}
use Rattle.lexicon_definitions.specs.Lexicons.{RuleSet, Lexicon, Form}
use Rattle.lexicon_definitions.specs.FormEntries.{Entry, with_entry}
use Rattle.lexicon_text_definitions.specs.FileLines.{Kind, Opening}

-- entries are ordered by the number of the phase, then by the form, the stem and the tag's text
abbrev pub compare_entries : Entry → Entry → Ordering
compare_entries left right =
    ordering_then (nat_cmp left.phase right.phase)
    (ordering_then (compare_words left.letters right.letters) (compare_analyses left.analysis right.analysis))

-- what the lines so far told: the kind of the last line, the names of the phases, the grammar's text, and the plain pairs,
-- rules and entries in the order of their lines
pub record Told : Type 0 where
  pub last : Kind
  pub names : List (List ℕ)
  pub grammar : List ℕ
  pub plain : List (ℕ × ℕ)
  pub rules : List Rule
  pub forms : List Entry

-- before the first line nothing is told
abbrev pub nothing_told : Told
nothing_told = record { last = Opening; names = []; grammar = []; plain = []; rules = []; forms = [] }

-- ---- tests

-- the text is one of the words
abbrev pub is_one_of : List (List ℕ) → List ℕ → Bool
is_one_of words text = list_any (bytes_eq text) words

-- the words of a tag: one lone word, or gender, number and case, or tense, voice, person and number
abbrev pub are_tag_words : List (List ℕ) → Bool
are_tag_words (word ∷ []) = is_one_of lone_words word
are_tag_words (gender ∷ number ∷ gcase ∷ []) =
    is_one_of genders gender && is_one_of numbers number && is_one_of cases gcase
are_tag_words (tense ∷ voice ∷ person ∷ number ∷ []) =
    is_one_of tenses tense && is_one_of voices voice && is_one_of persons person && is_one_of numbers number
are_tag_words words = false

-- a tag's text is its words with dots between
unfoldable pub is_tag_text : List ℕ → Bool
is_tag_text text = are_tag_words (slice_split (λ byte. byte == 46) text)

-- how the last of these compares with a new one; below it where there is no last one
abbrev pub compare_last : {A : Type 0} → (A → A → Ordering) → List A → A → Ordering
compare_last compare [] new = Less
compare_last compare (last ∷ []) new = compare last new
compare_last compare (first ∷ second ∷ rest) new = compare_last compare (second ∷ rest) new

-- ---- rules

-- the rule has this triple
abbrev pub has_triple : List ℕ → List ℕ → List ℕ → Rule → Bool
has_triple u v w rule = bytes_eq rule.u u && bytes_eq rule.v v && bytes_eq rule.w w

-- these words, with a rule's v after them unless it is empty or one of them
abbrev pub with_v : List (List ℕ) → List ℕ → List (List ℕ)
with_v words v = if is_empty v || list_any (bytes_eq v) words then words else words ++ v ∷ []

abbrev pub different_v_from : List (List ℕ) → List Rule → List (List ℕ)
different_v_from words [] = words
different_v_from words (rule ∷ rules) = different_v_from (with_v words rule.v) rules

-- the different v of the rules that are not empty, in the order in which the rules bring them
abbrev pub different_v : List Rule → List (List ℕ)
different_v rules = different_v_from [] rules

-- ---- forms

-- the phases with these entries too
abbrev pub with_entries : List (List Form) → List Entry → List (List Form)
with_entries phases [] = phases
with_entries phases (entry ∷ entries) = with_entries (with_entry phases entry) entries

-- the entry of a form of a phase with this analysis
abbrev pub entry_with : ℕ → List ℕ → Analysis → Entry
entry_with phase letters analysis = record { phase = phase; letters = letters; analysis = analysis }

-- the entries of the forms of the phase with this number, one for each analysis
abbrev pub phase_entries : ℕ → List Form → List Entry
phase_entries phase [] = []
phase_entries phase (form ∷ forms) = map (entry_with phase form.letters) form.analyses ++ phase_entries phase forms

-- the entries of the forms of phases, the first of which has this number
abbrev pub entries_from : ℕ → List (List Form) → List Entry
entries_from phase [] = []
entries_from phase (forms ∷ phases) = phase_entries phase forms ++ entries_from (phase + 1) phases

-- the rule set and the lexicon that the lines told
abbrev pub rules_told : Told → RuleSet
rules_told told = record { names = told.names; grammar = told.grammar; plain = told.plain; rules = told.rules }

abbrev pub lexicon_told : Told → Lexicon
lexicon_told told =
    record { rules = rules_told told; phases = with_entries (replicate (length told.names) []) told.forms }
