-- The analyses of a form among the forms of a phase: by induction on the forms, they are just those that one of the forms has
-- with these letters, since no two forms have the same letters. Each has a delta, so they are also what the deltas of a trie's
-- node give, and two rising lists with the same elements are one.
use Rattle.std.proofs.Common.{◌≡◌, ℕ, ◌≤◌, ◌↔◌, Bool, true, false, if◌then◌else◌, List, [], ◌∷◌, length, map, Some, None, inl, inr, refl, sym, ◌∙◌, ap, subst}
use Rattle.std.specs.Prelude.{All, Contains, IsSome}
use Rattle.std.specs.List.Sorted.{IsStrictlySortedBy}
use Rattle.std.specs.Str.{bytes_eq}
use Rattle.std.specs.declared.cmp.Ordering.TheVariants.{Less}
use Rattle.std.proofs.lemmas.Cmp.{nat_list_cmp_total}
use Rattle.std.proofs.lemmas.List.{append-nil}
use Rattle.std.proofs.lemmas.List.Elements.{All-head, All-tail}
use Rattle.std.proofs.lemmas.Map.Keys.{sorted_tail}
use Rattle.std.proofs.lemmas.Slice.Eq.{bytes_eq-Decides}
use Rattle.list_laws.specs.RisingSets.{with_elements}
use Rattle.list_laws.proofs.Sorted.{Contains-first, Contains-later, Contains-cons_cases, not_Contains-nil, All-from_Contains, Less-from_later, not_Less-itself, same_sorted}
use Rattle.list_laws.proofs.RisingSetLaws.{Contains-with_elements, sorted-with_elements}
use Rattle.text_definitions.specs.Words.{compare_words}
use Rattle.lexicon_definitions.specs.Analyses.{Analysis, compare_analyses}
use Rattle.lexicon_definitions.specs.Deltas.{Delta, analysis_by}
use Rattle.lexicon_definitions.specs.FormEntries.{HasAnalysis}
use Rattle.lexicon_definitions.specs.Lexicons.{Form, IsFormEntry, IsPhase}
use Rattle.lexicon_definitions.specs.Tries.{Row, IsNodeAfter, HasDelta, BeginsForm, row_of, walk}
use Rattle.lexicon_definitions.proofs.FormsWithEntry.{analyses_total, has_later, by_letters, forms_total}
use Rattle.form_tags.proofs.AnalysisOrder.{exact_analyses}
use Rattle.search_frames.proofs.WalkDeltas.{delta_exists}
use Rattle.session_definitions.specs.PrintedSummaries.{analyses_among}
use Rattle.list_laws.proofs.FirstOnes.{Contains-map, Contains-map_cases}

module _ (letters : List ℕ) where
  -- one of the forms has these letters and this analysis
  pub has_among : (forms : List Form) (analysis : Analysis) → Contains (analyses_among forms letters) analysis → HasAnalysis forms letters analysis
  has_among [] analysis inside = absurd (not_Contains-nil analysis inside)
  has_among (form ∷ forms) analysis inside =
      let go : (b : Bool) → bytes_eq form.letters letters ≡ b
      → Contains (if b then form.analyses else analyses_among forms letters) analysis → HasAnalysis (form ∷ forms) letters analysis =
      elim [
        | true ↦ λ e m. record {
          form = form;
          is_among = Contains-first form forms;
          has_letters = (bytes_eq-Decides form.letters letters).0 e;
          is_analyzed = m;
        }
        | false ↦ λ e m. has_later form forms letters analysis (has_among forms analysis m)
      ]
      in go (bytes_eq form.letters letters) refl inside

  -- the analysis is among those of the letters, where one of the forms has it
  pub among_has : (forms : List Form) (analysis : Analysis) → IsStrictlySortedBy by_letters forms → HasAnalysis forms letters analysis
      → Contains (analyses_among forms letters) analysis
  among_has [] analysis rising has = absurd (not_Contains-nil has.form has.is_among)
  among_has (form ∷ forms) analysis rising has =
      let go : (b : Bool) → bytes_eq form.letters letters ≡ b
      → Contains (if b then form.analyses else analyses_among forms letters) analysis =
      elim [
        | true ↦ λ e. elim (Contains-cons_cases form forms has.form has.is_among) [
          | inl same ↦ subst (λ (f : Form). Contains f.analyses analysis) (sym same) has.is_analyzed
          | inr later ↦
              let one : form.letters ≡ has.form.letters = (bytes_eq-Decides form.letters letters).0 e ∙ sym has.has_letters in
              let below : compare_words form.letters has.form.letters ≡ Less = Less-from_later forms_total form forms has.form rising later in
              absurd (not_Less-itself nat_list_cmp_total has.form.letters (subst (λ (w : List ℕ). compare_words w has.form.letters ≡ Less) one below))
        ]
        | false ↦ λ e. elim (Contains-cons_cases form forms has.form has.is_among) [
          | inl same ↦
              let one : bytes_eq form.letters letters ≡ true = (bytes_eq-Decides form.letters letters).1 (ap (λ (f : Form). f.letters) same ∙ has.has_letters) in
              absurd (cc)
          | inr later ↦ among_has forms analysis (sorted_tail by_letters form forms rising)
              (record { form = has.form; is_among = later; has_letters = has.has_letters; is_analyzed = has.is_analyzed })
        ]
      ]
      in go (bytes_eq form.letters letters) refl

  -- they rise
  pub among_rises : (forms : List Form) → All IsFormEntry forms → IsStrictlySortedBy compare_analyses (analyses_among forms letters)
  unfolding IsStrictlySortedBy
  among_rises [] each = tt
  among_rises (form ∷ forms) each =
      let go : (b : Bool) → IsStrictlySortedBy compare_analyses (if b then form.analyses else analyses_among forms letters) =
      elim [
        | true ↦ (All-head IsFormEntry form forms each).rising
        | false ↦ among_rises forms (All-tail IsFormEntry form forms each)
      ]
      in go (bytes_eq form.letters letters)

  -- there are no analyses where no form has these letters
  pub none_among : (forms : List Form) → ((form : Form) → Contains forms form → form.letters ≡ letters → ⊥) → analyses_among forms letters ≡ []
  none_among [] none = refl
  none_among (form ∷ forms) none =
      let go : (b : Bool) → bytes_eq form.letters letters ≡ b → (if b then form.analyses else analyses_among forms letters) ≡ [] =
      elim [
        | true ↦ λ e. absurd (none form (Contains-first form forms) ((bytes_eq-Decides form.letters letters).0 e))
        | false ↦ λ e. none_among forms (λ other inside. none other (Contains-later form forms other inside))
      ]
      in go (bytes_eq form.letters letters) refl

-- these are just the deltas of the form with these letters
pub record AreDeltasOf (forms : List Form) (letters : List ℕ) (deltas : List Delta) : Type 0 where
  pub each : (delta : Delta) → Contains deltas delta ↔ HasDelta forms letters delta

-- the deltas of the node to which a form leads from the root of its phase
pub deltas_at_node : (rows : List Row) (forms : List Form) (letters : List ℕ) (root node : ℕ) → IsNodeAfter rows forms [] root
    → walk rows root letters ≡ Some node → AreDeltasOf forms letters (row_of rows node).deltas
deltas_at_node rows forms letters root node is walked = record { each = is.deltas letters node walked }

-- they cut no more letters than there are
pub cut_within : (forms : List Form) (letters : List ℕ) (deltas : List Delta) → AreDeltasOf forms letters deltas
    → All (λ (delta : Delta). delta.cut ≤ length letters) deltas
cut_within forms letters deltas are =
    All-from_Contains (λ (delta : Delta). delta.cut ≤ length letters) deltas (λ delta inside. ((are.each delta).0 inside).is_delta.within)

-- what they give are the form's analyses
pub found_analyses : (forms : List Form) (letters : List ℕ) (deltas : List Delta) → IsPhase forms → AreDeltasOf forms letters deltas
    → with_elements compare_analyses [] (map (analysis_by letters) deltas) ≡ analyses_among forms letters
unfolding IsStrictlySortedBy
found_analyses forms letters deltas phase are =
    let given = map (analysis_by letters) deltas in
    same_sorted analyses_total (with_elements compare_analyses [] given) (analyses_among forms letters)
    (sorted-with_elements analyses_total exact_analyses [] given tt) (among_rises letters forms phase.each)
    (λ analysis inside. elim ((Contains-with_elements analyses_total exact_analyses [] given analysis).0 inside) [
      | inl none ↦ absurd (not_Contains-nil analysis none)
      | inr there ↦
          let (delta, among, gives) = Contains-map_cases (analysis_by letters) deltas analysis there in
          let has = (are.each delta).0 among in
          among_has letters forms analysis phase.rising (record {
            form = has.form;
            is_among = has.is_among;
            has_letters = has.has_letters;
            is_analyzed = subst (Contains has.form.analyses) (sym has.is_delta.gives ∙ gives) has.is_analyzed;
          })
    ])
    (λ analysis inside.
    let has = has_among letters forms analysis inside in
    let (delta, is) = delta_exists letters analysis in
    let among = (are.each delta).1 (record {
      form = has.form;
      is_among = has.is_among;
      has_letters = has.has_letters;
      analysis = analysis;
      is_analyzed = has.is_analyzed;
      is_delta = is;
    }) in
    (Contains-with_elements analyses_total exact_analyses [] given analysis).1
    (inr (subst (Contains given) is.gives (Contains-map (analysis_by letters) deltas delta among))))

-- letters that lead nowhere are no form's
pub not_found : (rows : List Row) (forms : List Form) (letters : List ℕ) (root : ℕ) → IsNodeAfter rows forms [] root
    → walk rows root letters ≡ None → analyses_among forms letters ≡ []
not_found rows forms letters root is walked =
    none_among letters forms (λ form inside same.
    let begins : BeginsForm forms letters = record { form = form; is_among = inside; rest = []; has_letters = same ∙ sym (append-nil letters) } in
    let walks : IsSome (walk rows root letters) = (is.walks letters).1 (inr begins) in
    absurd (cc))
