-- Phases with one entry more have what they had and the new entry, and nothing else. By induction on the list in which an element is
-- placed, along the three cases of a step.
use Rattle.std.proofs.Common.{◌≡◌, ℕ, ◌<◌, ◌⊎◌, inl, inr, List, [], ◌∷◌, length, get_or, set, refl, sym, ◌∙◌, ap, subst, Ordering}
use Rattle.std.specs.Prelude.{Contains}
use Rattle.std.specs.declared.cmp.Ordering.TheVariants.{Less, Equal, Greater}
use Rattle.std.proofs.lemmas.Bool.{cases_eq}
use Rattle.std.proofs.lemmas.List.{get_or-set_same, get_or-set_other, length-set}
use Rattle.std.proofs.lemmas.Map.Lookups.{exact_bytes}
use Rattle.text_definitions.specs.Words.{compare_words}
use Rattle.lexicon_definitions.specs.Analyses.{Analysis, compare_analyses}
use Rattle.lexicon_definitions.specs.FormEntries.{Entry, placed_at, with_analysis, with_form, with_entry, HasAnalysis, HasEntry}
use Rattle.lexicon_definitions.specs.Lexicons.{Form}
use Rattle.list_laws.proofs.Sorted.{Contains-first, Contains-later, Contains-cons_cases, not_Contains-nil}
use Rattle.form_tags.proofs.AnalysisOrder.{exact_analyses}
use Rattle.lexicon_definitions.proofs.FormsWithEntry.{has_later}

-- ---- analyses

module _ (new : Analysis) where
  -- an analysis is an old one or the new one
  analysis_cases : (analyses : List Analysis) (x : Analysis) → Contains (with_analysis new analyses) x → Contains analyses x ⊎ (x ≡ new)
  analysis_cases [] x m = elim (Contains-cons_cases new [] x m) [ inl e ↦ inr (sym e) | inr n ↦ inl n ]
  analysis_cases (analysis ∷ analyses) x m =
      let go : (order : Ordering) → Contains (placed_at order new analysis analysis analyses (with_analysis new analyses)) x
      → Contains (analysis ∷ analyses) x ⊎ (x ≡ new) = elim [
        | Less ↦ λ h. elim (Contains-cons_cases analysis (with_analysis new analyses) x h) [
          | inl e ↦ inl (subst (Contains (analysis ∷ analyses)) e (Contains-first analysis analyses))
          | inr n ↦ elim (analysis_cases analyses x n) [ inl o ↦ inl (Contains-later analysis analyses x o) | inr e ↦ inr e ]
        ]
        | Equal ↦ λ h. inl h
        | Greater ↦ λ h. elim (Contains-cons_cases new (analysis ∷ analyses) x h) [ inl e ↦ inr (sym e) | inr n ↦ inl n ]
      ] in
      go (compare_analyses analysis new) m

  -- the old ones stay
  analysis_stays : (analyses : List Analysis) (x : Analysis) → Contains analyses x → Contains (with_analysis new analyses) x
  analysis_stays [] x m = absurd (not_Contains-nil x m)
  analysis_stays (analysis ∷ analyses) x m =
      let go : (order : Ordering) → Contains (placed_at order new analysis analysis analyses (with_analysis new analyses)) x = elim [
        | Less ↦ elim (Contains-cons_cases analysis analyses x m) [
          | inl e ↦ subst (Contains (analysis ∷ with_analysis new analyses)) e (Contains-first analysis (with_analysis new analyses))
          | inr n ↦ Contains-later analysis (with_analysis new analyses) x (analysis_stays analyses x n)
        ]
        | Equal ↦ m
        | Greater ↦ Contains-later new (analysis ∷ analyses) x m
      ] in
      go (compare_analyses analysis new)

  -- the new one is there
  analysis_comes : (analyses : List Analysis) → Contains (with_analysis new analyses) new
  analysis_comes [] = Contains-first new []
  analysis_comes (analysis ∷ analyses) =
      let go : (order : Ordering) → compare_analyses analysis new ≡ order
      → Contains (placed_at order new analysis analysis analyses (with_analysis new analyses)) new = elim [
        | Less ↦ λ e. Contains-later analysis (with_analysis new analyses) new (analysis_comes analyses)
        | Equal ↦ λ e. subst (Contains (analysis ∷ analyses)) (exact_analyses analysis new e) (Contains-first analysis analyses)
        | Greater ↦ λ e. Contains-first new (analysis ∷ analyses)
      ] in
      go (compare_analyses analysis new) refl

-- ---- forms

-- the first form has the analysis
has_first : (form : Form) (forms : List Form) (letters : List ℕ) (x : Analysis) → form.letters ≡ letters → Contains form.analyses x
    → HasAnalysis (form ∷ forms) letters x
has_first form forms letters x same m =
    record { form = form; is_among = Contains-first form forms; has_letters = same; is_analyzed = m }

-- one of the two has it
has_cases : (form : Form) (forms : List Form) (letters : List ℕ) (x : Analysis) → HasAnalysis (form ∷ forms) letters x
    → ((form.letters ≡ letters) × Contains form.analyses x) ⊎ HasAnalysis forms letters x
has_cases form forms letters x h =
    elim (Contains-cons_cases form forms h.form h.is_among) [
      | inl e ↦ inl (ap (λ (f : Form). f.letters) e ∙ h.has_letters, subst (λ (f : Form). Contains f.analyses x) (sym e) h.is_analyzed)
      | inr n ↦ inr (record { form = h.form; is_among = n; has_letters = h.has_letters; is_analyzed = h.is_analyzed })
    ]

-- where there are no forms, no form has the analysis
has_none : (letters : List ℕ) (x : Analysis) → HasAnalysis [] letters x → ⊥
has_none letters x h = not_Contains-nil h.form h.is_among

module _ (letters : List ℕ) (new : Analysis) where
  -- the form alone, and a form with the analysis
  abbrev alone : Form
  alone = record { letters = letters; analyses = new ∷ [] }

  abbrev more : Form → Form
  more form = record { letters = form.letters; analyses = with_analysis new form.analyses }

  -- what the forms have is old, or the new analysis of the form
  form_cases : (forms : List Form) (word : List ℕ) (x : Analysis) → HasAnalysis (with_form letters new forms) word x
      → HasAnalysis forms word x ⊎ ((word ≡ letters) × (x ≡ new))
  form_cases [] word x h =
      elim (has_cases alone [] word x h) [
        | inl (same, m) ↦ elim (Contains-cons_cases new [] x m) [ inl e ↦ inr (sym same, sym e) | inr n ↦ absurd (not_Contains-nil x n) ]
        | inr n ↦ absurd (has_none word x n)
      ]
  form_cases (form ∷ forms) word x h =
      let go : (order : Ordering) → compare_words form.letters letters ≡ order → HasAnalysis (placed_at order alone (more form) form forms (with_form letters new forms)) word x
      → HasAnalysis (form ∷ forms) word x ⊎ ((word ≡ letters) × (x ≡ new)) = elim [
        | Less ↦ λ e h. elim (has_cases form (with_form letters new forms) word x h) [
          | inl (same, m) ↦ inl (has_first form forms word x same m)
          | inr n ↦ elim (form_cases forms word x n) [ inl o ↦ inl (has_later form forms word x o) | inr is ↦ inr is ]
        ]
        | Equal ↦ λ e h. elim (has_cases (more form) forms word x h) [
          | inl (same, m) ↦ elim (analysis_cases new form.analyses x m) [
            | inl o ↦ inl (has_first form forms word x same o)
            | inr is ↦ inr (sym same ∙ exact_bytes form.letters letters e, is)
          ]
          | inr n ↦ inl (has_later form forms word x n)
        ]
        | Greater ↦ λ e h. elim (has_cases alone (form ∷ forms) word x h) [
          | inl (same, m) ↦ elim (Contains-cons_cases new [] x m) [ inl f ↦ inr (sym same, sym f) | inr n ↦ absurd (not_Contains-nil x n) ]
          | inr n ↦ inl n
        ]
      ] in
      go (compare_words form.letters letters) refl h

  -- what they had stays
  form_stays : (forms : List Form) (word : List ℕ) (x : Analysis) → HasAnalysis forms word x → HasAnalysis (with_form letters new forms) word x
  form_stays [] word x h = absurd (has_none word x h)
  form_stays (form ∷ forms) word x h =
      let go : (order : Ordering) → HasAnalysis (placed_at order alone (more form) form forms (with_form letters new forms)) word x = elim [
        | Less ↦ elim (has_cases form forms word x h) [
          | inl (same, m) ↦ has_first form (with_form letters new forms) word x same m
          | inr n ↦ has_later form (with_form letters new forms) word x (form_stays forms word x n)
        ]
        | Equal ↦ elim (has_cases form forms word x h) [
          | inl (same, m) ↦ has_first (more form) forms word x same (analysis_stays new form.analyses x m)
          | inr n ↦ has_later (more form) forms word x n
        ]
        | Greater ↦ has_later alone (form ∷ forms) word x h
      ] in
      go (compare_words form.letters letters)

  -- the new one is there
  form_comes : (forms : List Form) → HasAnalysis (with_form letters new forms) letters new
  form_comes [] = has_first alone [] letters new refl (Contains-first new [])
  form_comes (form ∷ forms) =
      let go : (order : Ordering) → compare_words form.letters letters ≡ order
      → HasAnalysis (placed_at order alone (more form) form forms (with_form letters new forms)) letters new = elim [
        | Less ↦ λ e. has_later form (with_form letters new forms) letters new (form_comes forms)
        | Equal ↦ λ e. has_first (more form) forms letters new (exact_bytes form.letters letters e) (analysis_comes new form.analyses)
        | Greater ↦ λ e. has_first alone (form ∷ forms) letters new refl (Contains-first new [])
      ] in
      go (compare_words form.letters letters) refl

-- ---- phases

module _ (phases : List (List Form)) (new : Entry) (within : new.phase < length phases) where
  -- the forms of the entry's phase before, and after
  abbrev before : List Form
  before = get_or phases new.phase []

  abbrev after : List Form
  after = with_form new.letters new.analysis before

  -- what the phases have is old or the new entry
  pub entry_cases : (x : Entry) → HasEntry (with_entry phases new) x → HasEntry phases x ⊎ (x ≡ new)
  entry_cases x h =
      elim (cases_eq x.phase new.phase) [
        | inl e ↦ (
            let here : get_or (set phases new.phase after) x.phase [] ≡ after = ap (λ p. get_or (set phases new.phase after) p []) e ∙ get_or-set_same phases new.phase after [] within in
            elim (form_cases new.letters new.analysis before x.letters x.analysis (subst (λ (forms : List Form). HasAnalysis forms x.letters x.analysis) here h)) [
              | inl o ↦ inl (subst (λ (p : ℕ). HasAnalysis (get_or phases p []) x.letters x.analysis) (sym e) o)
              | inr (letters, analysis) ↦ inr (λ i. record { phase = e i; letters = letters i; analysis = analysis i })
            ])
        | inr ne ↦ inl (subst (λ (forms : List Form). HasAnalysis forms x.letters x.analysis) (get_or-set_other phases new.phase x.phase after [] ne) h)
      ]

  -- what they had stays
  pub entry_stays : (x : Entry) → HasEntry phases x → HasEntry (with_entry phases new) x
  entry_stays x h =
      elim (cases_eq x.phase new.phase) [
        | inl e ↦ (
            let here : get_or (set phases new.phase after) x.phase [] ≡ after = ap (λ p. get_or (set phases new.phase after) p []) e ∙ get_or-set_same phases new.phase after [] within in
            subst (λ (forms : List Form). HasAnalysis forms x.letters x.analysis) (sym here)
            (form_stays new.letters new.analysis before x.letters x.analysis (subst (λ (p : ℕ). HasAnalysis (get_or phases p []) x.letters x.analysis) e h)))
        | inr ne ↦ subst (λ (forms : List Form). HasAnalysis forms x.letters x.analysis) (sym (get_or-set_other phases new.phase x.phase after [] ne)) h
      ]

  -- the new one is there
  pub entry_comes : HasEntry (with_entry phases new) new
  entry_comes =
      subst (λ (forms : List Form). HasAnalysis forms new.letters new.analysis) (sym (get_or-set_same phases new.phase after [] within))
      (form_comes new.letters new.analysis before)

  -- there are as many phases
  pub entry_phases : length (with_entry phases new) ≡ length phases
  entry_phases = length-set phases new.phase after
