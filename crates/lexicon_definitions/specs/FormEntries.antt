-- The forms of a lexicon with one entry more: an entry is one analysis of one form of a phase (own).
use Rattle.std.specs.Prelude.{◌≡◌, ℕ, ◌<◌, ◌≤◌, List, [], ◌∷◌, length, slice_index_or, slice_set, All, Contains}
use Rattle.std.specs.declared.cmp.Ordering.{Ordering}
use Rattle.std.specs.declared.cmp.Ordering.TheVariants.{Less, Equal, Greater}
use Rattle.text_definitions.specs.Words.{compare_words}
use Rattle.lexicon_definitions.specs.Analyses.{Analysis, compare_analyses}
use Rattle.lexicon_definitions.specs.Lexicons.{Form, IsPhase}
use Rattle.lexicon_definitions.specs.declared.limits.TheConstants.{MOST_FORM_LETTERS}

-- the phase by its number, counted from 0, the form's letters, and one analysis of the form
pub record Entry : Type 0 where
  pub phase : ℕ
  pub letters : List ℕ
  pub analysis : Analysis

-- one step along a rising list, where x stands before the place, at it or after it: go on, change x, or put the new one before x
abbrev pub placed_at : {X : Type 0} → Ordering → X → X → X → List X → List X → List X
placed_at Less new changed x xs placed = x ∷ placed
placed_at Equal new changed x xs placed = changed ∷ xs
placed_at Greater new changed x xs placed = new ∷ x ∷ xs

-- the rising list with the element at the place changed, or with the new one put there where no element stands there; `side` says
-- of each element whether it stands before the place, at it or after it
abbrev pub placed : {X : Type 0} → (X → Ordering) → X → (X → X) → List X → List X
placed side new change [] = new ∷ []
placed side new change (x ∷ xs) = placed_at (side x) new (change x) x xs (placed side new change xs)

-- a rising list of analyses with this one too
abbrev pub with_analysis : Analysis → List Analysis → List Analysis
with_analysis analysis analyses = placed (λ other. compare_analyses other analysis) analysis (λ same. same) analyses

-- a rising list of forms with this analysis of the form too
abbrev pub with_form : List ℕ → Analysis → List Form → List Form
with_form letters analysis forms =
    placed (λ form. compare_words form.letters letters) (record { letters = letters; analyses = analysis ∷ [] }) (λ form. record { letters = form.letters; analyses = with_analysis analysis form.analyses }) forms

-- the phases with this entry too
abbrev pub with_entry : List (List Form) → Entry → List (List Form)
with_entry phases entry =
    slice_set phases entry.phase (with_form entry.letters entry.analysis (slice_index_or phases entry.phase []))

-- the forms have this analysis of the form
pub record HasAnalysis (forms : List Form) (letters : List ℕ) (analysis : Analysis) : Type 0 where
  pub form : Form
  pub is_among : Contains forms form
  pub has_letters : form.letters ≡ letters
  pub is_analyzed : Contains form.analyses analysis

-- the phases have the entry
abbrev pub HasEntry : List (List Form) → Entry → Type 0
HasEntry phases entry = HasAnalysis (slice_index_or phases entry.phase []) entry.letters entry.analysis

-- a stem that is listed has a letter, and not too many
pub record IsListedStem (analysis : Analysis) : Type 0 where
  pub not_empty : 0 < length analysis.stem
  pub short : length analysis.stem ≤ MOST_FORM_LETTERS

-- a form that is listed is not too long, and neither is any of its stems, which are not empty
pub record IsListedForm (form : Form) : Type 0 where
  pub short : length form.letters ≤ MOST_FORM_LETTERS
  pub stems : All IsListedStem form.analyses

-- the forms of a phase that is listed
pub record IsListedPhase (forms : List Form) : Type 0 where
  pub phase : IsPhase forms
  pub each : All IsListedForm forms
