-- The shape of a chain's text, which is that of a printed answer without its number: `FORM[PHASE]`, then any number of times
-- ` + FORM[PHASE]` or ` (u|v>w) FORM[PHASE]`, then at most once ` (u|>w)` (own). No part of it has a blank inside, so the text
-- is cut at its blanks.
use Rattle.std.specs.Prelude.{ℕ, ◌==◌, Bool, if◌then◌else◌, Option, Some, None, option_map, option_and_then, Ok, List, [], ◌∷◌, codes}
use Rattle.std.specs.List.{slice_split}
use Rattle.std.specs.Str.{bytes_eq}
use Rattle.list_laws.specs.Cuts.{cut}
use Rattle.list_laws.specs.EmptyLists.{is_empty}
use Rattle.text_definitions.specs.Spellings.{Reading}
use Rattle.text_definitions.specs.Slp1.{word_of_slp1}
use Rattle.lexicon_definitions.specs.PhaseNames.{is_phase_name}

-- the words of a rule
pub record Triple : Type 0 where
  pub u : List ℕ
  pub v : List ℕ
  pub w : List ℕ

-- a form with the name of its phase, as they are written
pub record WrittenForm : Type 0 where
  pub letters : List ℕ
  pub name : List ℕ

-- a written form, and the words of the rule after it, which are none where there is no change
pub record WrittenStep : Type 0 where
  pub form : WrittenForm
  pub change : Option Triple

-- ---- words

-- any word that is read
abbrev pub any_word : Reading → Option (List ℕ)
any_word (Ok word) = Some word
any_word reading = None

-- the word that is read, where it has a letter
abbrev pub some_word : Reading → Option (List ℕ)
some_word (Ok (letter ∷ word)) = Some (letter ∷ word)
some_word reading = None

-- what stands before a mark that is the last byte
abbrev pub closed_part : Option (List ℕ × List ℕ) → Option (List ℕ)
closed_part None = None
closed_part (Some parts) = if is_empty parts.1 then Some parts.0 else None

-- what stands before the first of the marks in a text, which is the text's last byte
abbrev pub closed_by : ℕ → List ℕ → Option (List ℕ)
closed_by mark text = closed_part (cut mark text)

-- ---- forms

-- the written form with these letters, if they are a word, and this name, if it is a phase's
abbrev pub form_with : Option (List ℕ) → Option (List ℕ) → Option WrittenForm
form_with (Some letters) (Some name) = if is_phase_name name then Some (record { letters = letters; name = name }) else None
form_with letters name = None

abbrev pub form_of_parts : Option (List ℕ × List ℕ) → Option WrittenForm
form_of_parts None = None
form_of_parts (Some parts) = form_with (some_word (word_of_slp1 parts.0)) (closed_by 93 parts.1)

-- `FORM[PHASE]`: a word in SLP1 that is not empty, and a phase's name between brackets
unfoldable pub form_of_text : List ℕ → Option WrittenForm
form_of_text text = form_of_parts (cut 91 text)

-- ---- changes

-- the triple with these words, where all of them are read
abbrev pub triple_with : Option (List ℕ) → Option (List ℕ) → Option (List ℕ) → Option Triple
triple_with (Some u) (Some v) (Some w) = Some (record { u = u; v = v; w = w })
triple_with u v w = None

abbrev pub triple_of_parts : List ℕ → Option (List ℕ × List ℕ) → Option Triple
triple_of_parts u None = None
triple_of_parts u (Some parts) =
    triple_with (some_word (word_of_slp1 u)) (any_word (word_of_slp1 parts.0)) (some_word (word_of_slp1 parts.1))

abbrev pub triple_of_halves : Option (List ℕ × List ℕ) → Option Triple
triple_of_halves None = None
triple_of_halves (Some halves) = triple_of_parts halves.0 (cut 62 halves.1)

-- `u|v>w`: words in SLP1, of which v alone may be empty
abbrev pub triple_of_notation : List ℕ → Option Triple
triple_of_notation text = triple_of_halves (cut 124 text)

-- `(u|v>w)`
unfoldable pub triple_of_text : List ℕ → Option Triple
triple_of_text [] = None
triple_of_text (byte ∷ text) = if byte == 40 then option_and_then triple_of_notation (closed_by 41 text) else None

-- the triple, where it is an inner rule's
abbrev pub if_inner : Triple → Option (Option Triple)
if_inner triple = if is_empty triple.v then None else Some (Some triple)

-- the triple, where it is a final rule's
abbrev pub if_final : Triple → Option (Option Triple)
if_final triple = if is_empty triple.v then Some (Some triple) else None

-- what stands between two forms: `+` for no change, or an inner rule between brackets
unfoldable pub change_between : List ℕ → Option (Option Triple)
change_between text = if bytes_eq text (codes "+") then Some None else option_and_then if_inner (triple_of_text text)

-- what stands after the last form: a final rule between brackets
unfoldable pub change_at_end : List ℕ → Option (Option Triple)
change_at_end text = option_and_then if_final (triple_of_text text)

-- ---- chains

-- the step with this form and this change, where both are read
abbrev pub step_with : Option WrittenForm → Option (Option Triple) → Option WrittenStep
step_with (Some form) (Some change) = Some (record { form = form; change = change })
step_with form change = None

-- the step and those after it, where all are read
abbrev pub step_before : Option WrittenStep → Option (List WrittenStep) → Option (List WrittenStep)
step_before (Some step) (Some steps) = Some (step ∷ steps)
step_before step steps = None

-- the steps that these words write: a form, then a change and a form any number of times, then at most one change
abbrev pub steps_of_words : List (List ℕ) → Option (List WrittenStep)
steps_of_words [] = None
steps_of_words (form ∷ []) = step_before (step_with (form_of_text form) (Some None)) (Some [])
steps_of_words (form ∷ change ∷ []) = step_before (step_with (form_of_text form) (change_at_end change)) (Some [])
steps_of_words (form ∷ change ∷ next ∷ words) =
    step_before (step_with (form_of_text form) (change_between change)) (steps_of_words (next ∷ words))

-- the steps that a text writes, or none where it has not the shape of a chain's text
unfoldable pub steps_of_text : List ℕ → Option (List WrittenStep)
steps_of_text text = steps_of_words (slice_split (λ byte. byte == 32) text)
