-- The last entry of phases: the entries end with it. An entry above it is the last afterwards, and its form is the last form again,
-- the next form of the phase, or the first one of a later phase.
use Rattle.std.proofs.Common.{◌≡◌, ◌≢◌, ◌⊎◌, inl, inr, ℕ, ◌+◌, ◌<◌, List, [], ◌∷◌, ◌++◌, length, get_or, All, refl, sym, ◌∙◌, ap, subst, arith}
use Rattle.std.specs.declared.cmp.Ordering.TheVariants.{Less}
use Rattle.std.specs.Ordering.{nat_cmp, ordering_then}
use Rattle.std.specs.Cmp.{ranked}
use Rattle.std.proofs.lemmas.List.{get_or-set_other, get_or-set_same, length-set, length_push}
use Rattle.std.proofs.lemmas.List.Elements.{All-contains, Contains-push}
use Rattle.std.proofs.lemmas.Map.Lookups.{exact_bytes, exact_unsigned}
use Rattle.list_laws.proofs.Orderings.{less_then_cases}
use Rattle.text_definitions.specs.Words.{compare_words}
use Rattle.lexicon_definitions.specs.Analyses.{Analysis, compare_analyses}
use Rattle.lexicon_definitions.specs.FormEntries.{Entry, IsListedPhase, with_entry, with_form}
use Rattle.lexicon_definitions.specs.Lexicons.{Form, IsFormEntry, IsPhase}
use Rattle.lexicon_definitions.specs.Limits.{count_lines}
use Rattle.lexicon_text_definitions.specs.FileContents.{compare_entries, compare_last, entries_from, entry_with}
use Rattle.lexicon_text_definitions.proofs.WholeTexts.{counted}
use Rattle.shared_trie.specs.OpenForms.{IsLastEntry}
use Rattle.shared_trie.proofs.EntriesEnd.{compare_last-push, empty_after, entries_end, entries_with, lawful_lists}
use Rattle.shared_trie.proofs.LastForms.{with_form_after, with_form_at}

-- the last form
abbrev pub last_form : (entry : Entry) (analyses : List Analysis) → Form
last_form entry analyses = record { letters = entry.letters; analyses = analyses ++ entry.analysis ∷ [] }

-- an entry compares with the last one
pub last_compared : (phases : List (List Form)) (last new : Entry) → IsLastEntry phases last → compare_last compare_entries (entries_from 0 phases) new ≡ compare_entries last new
last_compared phases last new is =
    let (before, ends) = entries_end 0 phases last.phase is.before (last_form last is.analyses) is.analyses last.analysis (empty_after phases last.phase is.within is.none_after) is.is refl in
    let zero_on : 0 + last.phase ≡ last.phase = omega arith in
    ap (λ (es : List Entry). compare_last compare_entries es new) ends ∙ compare_last-push compare_entries before (entry_with (0 + last.phase) last.letters last.analysis) new
    ∙ ap (λ (n : ℕ). compare_entries (entry_with n last.letters last.analysis) new) zero_on

-- how an entry may come after the last one
pub after_last : (last new : Entry) → compare_entries last new ≡ Less
    → (last.phase < new.phase) ⊎ (((last.phase ≡ new.phase) × (compare_words last.letters new.letters ≡ Less))
    ⊎ ((last.phase ≡ new.phase) × (last.letters ≡ new.letters) × (compare_analyses last.analysis new.analysis ≡ Less)))
after_last last new less =
    elim (less_then_cases (nat_cmp last.phase new.phase) (ordering_then (compare_words last.letters new.letters) (compare_analyses last.analysis new.analysis)) less) [
      | inl phase ↦ inl (ranked last.phase new.phase Less (sym phase))
      | inr (same, rest) ↦
          let here = exact_unsigned last.phase new.phase same in
          inr (elim (less_then_cases (compare_words last.letters new.letters) (compare_analyses last.analysis new.analysis) rest) [
            | inl word ↦ inl (here, word)
            | inr (tied, analysis) ↦ inr (here, exact_bytes last.letters new.letters tied, analysis)
          ])
    ]

-- an entry of a phase after which no phase has a form is the last, as its phase says
abbrev pub last_with : (phases : List (List Form)) (entry : Entry) (before : List Form) (analyses : List Analysis) → entry.phase < length phases
    → ((phase : ℕ) → entry.phase < phase → get_or phases phase [] ≡ [])
    → with_form entry.letters entry.analysis (get_or phases entry.phase []) ≡ before ++ last_form entry analyses ∷ [] → IsLastEntry (with_entry phases entry) entry
last_with phases entry before analyses within none is =
    let forms = with_form entry.letters entry.analysis (get_or phases entry.phase []) in
    let long = length-set phases entry.phase forms in
    record {
      within = omega (arith, long, within);
      none_after = λ phase after. let other : phase ≢ entry.phase = omega (arith, after) in get_or-set_other phases entry.phase phase forms [] other ∙ none phase after;
      before = before;
      analyses = analyses;
      is = get_or-set_same phases entry.phase forms [] within ∙ is;
    }

-- the forms of its phase
pub forms_with : (phases : List (List Form)) (entry : Entry) → entry.phase < length phases
    → get_or (with_entry phases entry) entry.phase [] ≡ with_form entry.letters entry.analysis (get_or phases entry.phase [])
forms_with phases entry within = get_or-set_same phases entry.phase (with_form entry.letters entry.analysis (get_or phases entry.phase [])) [] within

-- the forms of other phases
pub others_with : (phases : List (List Form)) (entry : Entry) (phase : ℕ) → phase ≢ entry.phase → get_or (with_entry phases entry) phase [] ≡ get_or phases phase []
others_with phases entry phase other = get_or-set_other phases entry.phase phase (with_form entry.letters entry.analysis (get_or phases entry.phase [])) [] other

-- there is one entry more
pub one_line_more : (phases : List (List Form)) (entry : Entry) → All IsListedPhase phases → entry.phase < length phases
    → compare_last compare_entries (entries_from 0 phases) entry ≡ Less → count_lines (with_entry phases entry) ≡ count_lines phases + 1
one_line_more phases entry listed within above =
    let lines : List Entry = entries_from 0 phases in
    counted 0 (with_entry phases entry) ∙ ap length (entries_with phases (with_entry phases entry) entry (lawful_lists phases listed) within above refl)
    ∙ length_push lines entry ∙ ap (λ n. n + 1) (sym (counted 0 phases))

module _ (phases : List (List Form)) (last entry : Entry) (is : IsLastEntry phases last) (listed : All IsListedPhase phases) (same : last.phase ≡ entry.phase) where
  within : entry.phase < length phases
  within = subst (λ (n : ℕ). n < length phases) same is.within

  none : (phase : ℕ) → entry.phase < phase → get_or phases phase [] ≡ []
  none phase after = is.none_after phase (omega (arith, after, same))

  -- the forms of the phase so far
  pub forms_are : get_or phases entry.phase [] ≡ is.before ++ last_form last is.analyses ∷ []
  forms_are = ap (λ (n : ℕ). get_or phases n []) (sym same) ∙ is.is

  -- they are a phase
  pub phase_is : IsPhase (is.before ++ last_form last is.analyses ∷ [])
  phase_is = subst IsPhase forms_are (listed entry.phase [] within).phase

  -- the next form
  pub form_next : compare_words last.letters entry.letters ≡ Less
      → with_form entry.letters entry.analysis (get_or phases entry.phase []) ≡ (is.before ++ last_form last is.analyses ∷ []) ++ last_form entry [] ∷ []
  form_next above = ap (with_form entry.letters entry.analysis) forms_are ∙ with_form_after is.before (last_form last is.analyses) entry.letters entry.analysis phase_is.rising above

  -- the last form again
  pub form_again : last.letters ≡ entry.letters → compare_analyses last.analysis entry.analysis ≡ Less
      → with_form entry.letters entry.analysis (get_or phases entry.phase []) ≡ is.before ++ last_form entry (is.analyses ++ last.analysis ∷ []) ∷ []
  form_again letters above =
      let form = last_form last is.analyses in
      let entered = All-contains IsFormEntry (is.before ++ form ∷ []) form phase_is.each (Contains-push is.before form) in
      ap (with_form entry.letters entry.analysis) forms_are
      ∙ ap (λ (w : List ℕ). with_form w entry.analysis (is.before ++ form ∷ [])) (sym letters)
      ∙ with_form_at is.before last.letters is.analyses last.analysis entry.analysis phase_is.rising entered.rising above
      ∙ ap (λ (w : List ℕ). is.before ++ record { letters = w; analyses = (is.analyses ++ last.analysis ∷ []) ++ entry.analysis ∷ [] } ∷ []) letters
