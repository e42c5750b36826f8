-- Forms with one entry more are forms of a phase again, as long as before or longer by one: by what placing an element does.
use Rattle.std.proofs.Common.{◌≡◌, ◌≢◌, ℕ, ◌<◌, ◌≤◌, List, [], ◌∷◌, length, All, Ordering, refl, ap, arith, ◌++◌, get_or, ◌∙◌}
use Rattle.std.specs.declared.cmp.Ordering.TheVariants.{Less, Equal, Greater}
use Rattle.std.specs.List.Sorted.{IsStrictlySortedBy}
use Rattle.std.specs.Cmp.{IsTotalOrder}
use Rattle.std.proofs.lemmas.Cmp.{nat_list_cmp_total, then_total, on_total}
use Rattle.std.proofs.lemmas.List.Edits.{insert_end}
use Rattle.std.proofs.lemmas.List.Elements.{All-nil, All-cons}
use Rattle.text_definitions.specs.Words.{IsWord, compare_words}
use Rattle.lexicon_definitions.specs.Analyses.{Analysis, compare_analyses}
use Rattle.lexicon_definitions.specs.Lexicons.{Form, IsAnalysis, IsFormEntry, IsPhase}
use Rattle.lexicon_definitions.specs.FormEntries.{placed, placed_at, with_analysis, with_form, IsListedStem, IsListedForm, IsListedPhase, HasAnalysis}
use Rattle.lexicon_definitions.specs.declared.limits.TheConstants.{MOST_FORM_LETTERS}
use Rattle.lexicon_definitions.proofs.FormsPlaced.{All-placed, sorted_placed, placed_new}
use Rattle.list_laws.proofs.Sorted.{Contains-later}
use Rattle.std.specs.Ordering.{on}

-- the list with one more has an element
placed_not_empty : {X : Type 0} (side : X → Ordering) (new : X) (change : X → X) (xs : List X) → placed side new change xs ≢ []
placed_not_empty side new change [] = λ e. cc
placed_not_empty side new change (x ∷ xs) =
    let motive : Ordering → Type 0 = λ o. placed_at o new (change x) x xs (placed side new change xs) ≢ [] in
    elim (side x) as motive [ Less ↦ λ e. cc | Equal ↦ λ e. cc | Greater ↦ λ e. cc ]

-- analyses are ordered by two lists of numbers
pub analyses_total : IsTotalOrder compare_analyses
analyses_total =
    then_total (on_total (λ (a : Analysis). a.stem) nat_list_cmp_total) (on_total (λ (a : Analysis). a.tag) nat_list_cmp_total)

-- forms by their letters, which is a total order
abbrev pub by_letters : Form → Form → Ordering
by_letters = on (λ (form : Form). form.letters) compare_words

pub forms_total : IsTotalOrder by_letters
forms_total = on_total (λ (form : Form). form.letters) nat_list_cmp_total

-- a rising list of analyses rises with one more
pub sorted-with_analysis : (analysis : Analysis) (analyses : List Analysis) → IsStrictlySortedBy compare_analyses analyses → IsStrictlySortedBy compare_analyses (with_analysis analysis analyses)
sorted-with_analysis analysis analyses rising =
    sorted_placed (λ other. compare_analyses other analysis) analysis (λ same. same) analyses_total (λ same. same) (λ x. refl) (λ x. refl) analyses rising

-- a form with one analysis more
abbrev more_analyzed : Analysis → Form → Form
more_analyzed analysis form = record { letters = form.letters; analyses = with_analysis analysis form.analyses }

-- what holds of each analysis and of the new one holds of each afterwards
pub All-with_analysis : (P : Analysis → Type 0) (analysis : Analysis) → P analysis → (analyses : List Analysis) → All P analyses → All P (with_analysis analysis analyses)
All-with_analysis P analysis is_new = All-placed (λ other. compare_analyses other analysis) analysis (λ same. same) P is_new (λ x h. h)

module _ (letters : List ℕ) (analysis : Analysis) where
  -- the form alone
  abbrev alone : Form
  alone = record { letters = letters; analyses = analysis ∷ [] }

  -- what holds of each form, of the new one and of each with one analysis more holds of each form afterwards
  pub All-with_form : (P : Form → Type 0) → P alone → ((form : Form) → P form → P (more_analyzed analysis form)) → (forms : List Form) → All P forms → All P (with_form letters analysis forms)
  All-with_form P is_new is_changed = All-placed (λ (form : Form). compare_words form.letters letters) alone (more_analyzed analysis) P is_new is_changed

  -- a phase with one entry more is a phase
  pub IsPhase-with_form : IsWord letters → letters ≢ [] → IsAnalysis analysis → (forms : List Form) → IsPhase forms → IsPhase (with_form letters analysis forms)
  unfolding IsStrictlySortedBy
  IsPhase-with_form word not_empty analyzed forms phase =
      record {
        each =
            All-with_form IsFormEntry
            record {
              word = word;
              not_empty = not_empty;
              analyzed = λ e. cc;
              analyses = All-cons IsAnalysis analysis [] analyzed (All-nil IsAnalysis);
              rising = (tt, tt);
            }
            (λ form entry.
            record {
              word = entry.word;
              not_empty = entry.not_empty;
              analyzed = placed_not_empty (λ other. compare_analyses other analysis) analysis (λ same. same) form.analyses;
              analyses = All-with_analysis IsAnalysis analysis analyzed form.analyses entry.analyses;
              rising = sorted-with_analysis analysis form.analyses entry.rising;
            }) forms phase.each;
        rising =
            sorted_placed (λ (form : Form). compare_words form.letters letters) alone (more_analyzed analysis) nat_list_cmp_total (λ (form : Form). form.letters) (λ x. refl) (λ x. refl) forms phase.rising;
      }

  -- a listed phase with one entry more is a listed phase
  pub IsListedPhase-with_form : IsWord letters → 0 < length letters → length letters ≤ MOST_FORM_LETTERS → IsAnalysis analysis → IsListedStem analysis → (forms : List Form) → IsListedPhase forms → IsListedPhase (with_form letters analysis forms)
  IsListedPhase-with_form word not_empty short analyzed stem forms phase =
      let some_letter : letters ≢ [] = λ e. let none : length letters ≡ 0 = ap length e in omega (arith, none, not_empty) in
      record {
        phase = IsPhase-with_form word some_letter analyzed forms phase.phase;
        each =
            All-with_form IsListedForm
            record {
              short = short;
              stems = All-cons IsListedStem analysis [] stem (All-nil IsListedStem);
            }
            (λ form listed.
            record {
              short = listed.short;
              stems = All-with_analysis IsListedStem analysis stem form.analyses listed.stems;
            }) forms phase.each;
      }

  -- a form that comes after all others is appended
  pub with_form_last : (forms : List Form) → ((k : ℕ) (d : Form) → k < length forms → compare_words (get_or forms k d).letters letters ≡ Less)
      → with_form letters analysis forms ≡ forms ++ alone ∷ []
  with_form_last forms before =
      placed_new (λ (form : Form). compare_words form.letters letters) alone (more_analyzed analysis) forms (length forms) (omega arith) before (λ k d low high. absurd (omega (arith, low, high)))
      ∙ insert_end forms alone

-- what a later form has is there with a form before it
pub has_later : (form : Form) (forms : List Form) (letters : List ℕ) (x : Analysis) → HasAnalysis forms letters x → HasAnalysis (form ∷ forms) letters x
has_later form forms letters x h =
    record { form = h.form; is_among = Contains-later form forms h.form h.is_among; has_letters = h.has_letters; is_analyzed = h.is_analyzed }
