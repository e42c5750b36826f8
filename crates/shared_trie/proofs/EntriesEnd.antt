-- The entries of phases end with the last analysis of the last form of the last phase. An entry above the last goes to their end:
-- all entries are below it, so no phase after its own has a form, and it goes to the end of its phase.
use Rattle.std.proofs.Common.{◌≡◌, ◌≢◌, ℕ, zero, suc, ◌+◌, ◌<◌, ◌≤◌, List, [], ◌∷◌, ◌++◌, length, map, get_or, All, refl, sym, ◌∙◌, ap, subst, arith}
use Rattle.std.specs.List.{AllByRecursion}
use Rattle.std.specs.Ordering.{nat_cmp}
use Rattle.std.specs.declared.cmp.Ordering.{Ordering}
use Rattle.std.specs.declared.cmp.Ordering.TheVariants.{Less}
use Rattle.std.proofs.lemmas.List.{append_assoc, append-nil, map-append}
use Rattle.std.proofs.lemmas.List.Elements.{All-head, All-tail, recursion_from_All}
use Rattle.list_laws.proofs.Elements.{some_by_length}
use Rattle.list_laws.proofs.Orderings.{le_from_then}
use Rattle.list_laws.proofs.Sorted.{following_front, Contains-first}
use Rattle.lexicon_definitions.specs.Analyses.{Analysis}
use Rattle.lexicon_definitions.specs.Lexicons.{Form, IsFormEntry}
use Rattle.lexicon_definitions.specs.FormEntries.{Entry, IsListedForm, IsListedPhase, with_entry}
use Rattle.lexicon_text_definitions.specs.FileContents.{compare_entries, compare_last, entry_with, phase_entries, entries_from}
use Rattle.lexicon_text_definitions.proofs.RisingLines.{lines_total, sorted_with_last}
use Rattle.lexicon_text_definitions.proofs.FormLines.{EmptyAfter, AreEmpty, at_zero, lines_with, no_lines}
use Rattle.lexicon_text_definitions.proofs.FormPhases.{IsLawfulForm, AreLawful, lines_rise, entry_placed, all_left, all_right, line_itself}

-- ---- the last of a list

pub compare_last-push : {A : Type 0} (R : A → A → Ordering) (xs : List A) (x y : A) → compare_last R (xs ++ x ∷ []) y ≡ R x y
compare_last-push R [] x y = refl
compare_last-push R (a ∷ []) x y = refl
compare_last-push R (a ∷ b ∷ xs) x y = compare_last-push R (b ∷ xs) x y

-- ---- how entries end

phase_ends : (phase : ℕ) (front : List Form) (form : Form) (analyses : List Analysis) (analysis : Analysis) → form.analyses ≡ analyses ++ analysis ∷ []
    → (before : List Entry) × (phase_entries phase (front ++ form ∷ []) ≡ before ++ entry_with phase form.letters analysis ∷ [])
phase_ends phase [] form analyses analysis e = (
  map (entry_with phase form.letters) analyses,
  append-nil (map (entry_with phase form.letters) form.analyses) ∙ ap (map (entry_with phase form.letters)) e ∙ map-append (entry_with phase form.letters) analyses (analysis ∷ []),
)
phase_ends phase (first ∷ front) form analyses analysis e =
    let (before, is) = phase_ends phase front form analyses analysis e in
    let lines = map (entry_with phase first.letters) first.analyses in
    (lines ++ before, ap (λ more. lines ++ more) is ∙ sym (append_assoc lines before (entry_with phase form.letters analysis ∷ [])))

pub entries_end : (start : ℕ) (lists : List (List Form)) (place : ℕ) (front : List Form) (form : Form) (analyses : List Analysis) (analysis : Analysis) → EmptyAfter lists place
    → get_or lists place [] ≡ front ++ form ∷ [] → form.analyses ≡ analyses ++ analysis ∷ []
    → (before : List Entry) × (entries_from start lists ≡ before ++ entry_with (start + place) form.letters analysis ∷ [])
entries_end start [] place front form analyses analysis h e f = absurd h
entries_end start (forms ∷ lists) zero front form analyses analysis h e f =
    let (before, is) = phase_ends start front form analyses analysis f in
    let at : start ≡ start + 0 = omega arith in
    let none = no_lines (start + 1) lists h in (
      before,
      (λ i. phase_entries start (e i) ++ none i) ∙ append-nil (phase_entries start (front ++ form ∷ [])) ∙ is ∙ ap (λ phase. before ++ entry_with phase form.letters analysis ∷ []) at,
    )
entries_end start (forms ∷ lists) (suc place) front form analyses analysis h e f =
    let (before, is) = entries_end (start + 1) lists place front form analyses analysis h e f in
    let at : start + 1 + place ≡ start + suc place = omega arith in (
      phase_entries start forms ++ before,
      ap (λ more. phase_entries start forms ++ more) is ∙ sym (append_assoc (phase_entries start forms) before (entry_with (start + 1 + place) form.letters analysis ∷ []))
          ∙ ap (λ phase. (phase_entries start forms ++ before) ++ entry_with phase form.letters analysis ∷ []) at,
    )

-- ---- the last phase

pub are_empty : (lists : List (List Form)) → ((phase : ℕ) → get_or lists phase [] ≡ []) → AreEmpty lists
are_empty [] h = tt
are_empty (forms ∷ lists) h = (h 0, are_empty lists (λ phase. h (suc phase)))

pub empty_after : (lists : List (List Form)) (last : ℕ) → last < length lists → ((phase : ℕ) → last < phase → get_or lists phase [] ≡ []) → EmptyAfter lists last
empty_after [] last within none = absurd (omega arith)
empty_after (forms ∷ lists) zero within none = are_empty lists (λ phase. none (suc phase) (omega arith))
empty_after (forms ∷ lists) (suc last) within none = empty_after lists last (omega arith) (λ phase above. none (suc phase) (omega arith))

-- ---- listed phases are lawful

-- a form
lawful_form : (form : Form) → IsFormEntry form → IsListedForm form → IsLawfulForm form
lawful_form form entry listed = record {
  entry = entry;
  short = record { letters = listed.short; stems = λ k d below. (listed.stems k d below).short };
  stems = λ k d below. ((entry.analyses k d below).stem, some_by_length _ (listed.stems k d below).not_empty);
}

lawful_forms : (forms : List Form) → All IsFormEntry forms → All IsListedForm forms → AllByRecursion IsLawfulForm forms
lawful_forms [] e l = tt
lawful_forms (form ∷ forms) e l = (
  lawful_form form (All-head IsFormEntry form forms e) (All-head IsListedForm form forms l),
  lawful_forms forms (All-tail IsFormEntry form forms e) (All-tail IsListedForm form forms l),
)

pub lawful_lists : (lists : List (List Form)) → All IsListedPhase lists → AreLawful lists
lawful_lists [] h = tt
lawful_lists (forms ∷ lists) h =
    let first = All-head IsListedPhase forms lists h in (
      record { each = lawful_forms forms first.phase.each first.each; rising = first.phase.rising },
      lawful_lists lists (All-tail IsListedPhase forms lists h),
    )

-- ---- all entries are below

abbrev AreBelow : List Entry → Entry → Type 0
AreBelow lines entry = AllByRecursion (λ line. compare_entries line entry ≡ Less) lines

abbrev AreUpTo : ℕ → List Entry → Type 0
AreUpTo last lines = AllByRecursion (λ (line : Entry). line.phase ≤ last) lines

below_new : (lists : List (List Form)) (entry : Entry) → AreLawful lists → compare_last compare_entries (entries_from 0 lists) entry ≡ Less → AreBelow (entries_from 0 lists) entry
below_new lists entry lawful above =
    let lines : List Entry = entries_from 0 lists in
    recursion_from_All (λ line. compare_entries line entry ≡ Less) lines
    (following_front lines_total lines (entry ∷ []) entry (sorted_with_last lines_total lines entry (lines_rise 0 lists lawful) above) (Contains-first entry []))

up_to : (entry : Entry) (lines : List Entry) → AreBelow lines entry → AreUpTo entry.phase lines
up_to entry [] h = tt
up_to entry (line ∷ lines) h = (le_from_then line.phase entry.phase (nat_cmp line.phase entry.phase) refl _ h.0, up_to entry lines h.1)

-- ---- no phase after its own has a form

some_entry : (start last : ℕ) (letters : List ℕ) (analyses : List Analysis) (more : List Entry) → analyses ≢ [] → AreUpTo last (map (entry_with start letters) analyses ++ more) → start ≤ last
some_entry start last letters [] more n h = absurd (n refl)
some_entry start last letters (a ∷ analyses) more n h = h.0

no_form : (start last : ℕ) (forms : List Form) → AllByRecursion IsLawfulForm forms → AreUpTo last (phase_entries start forms) → last < start → forms ≡ []
no_form start last [] lawful h above = refl
no_form start last (form ∷ forms) lawful h above =
    let low = some_entry start last form.letters form.analyses (phase_entries start forms) lawful.0.entry.analyzed h in absurd (omega (arith, low, above))

none_above : (start last : ℕ) (lists : List (List Form)) (phase : ℕ) → AreLawful lists → AreUpTo last (entries_from start lists) → last < start + phase → get_or lists phase [] ≡ []
none_above start last [] phase lawful h above = refl
none_above start last (forms ∷ lists) zero lawful h above =
    no_form start last forms lawful.0.each (all_left (λ (line : Entry). line.phase ≤ last) (phase_entries start forms) (entries_from (start + 1) lists) h) (omega arith)
none_above start last (forms ∷ lists) (suc phase) lawful h above =
    none_above (start + 1) last lists phase lawful.1 (all_right (λ (line : Entry). line.phase ≤ last) (phase_entries start forms) (entries_from (start + 1) lists) h) (omega arith)

pub none_after : (lists : List (List Form)) (entry : Entry) → AreLawful lists → compare_last compare_entries (entries_from 0 lists) entry ≡ Less → (phase : ℕ) → entry.phase < phase → get_or lists phase [] ≡ []
none_after lists entry lawful above phase after =
    none_above 0 entry.phase lists phase lawful (up_to entry (entries_from 0 lists) (below_new lists entry lawful above)) (omega arith)

-- ---- the entries with it

pub entries_with : (lists new : List (List Form)) (entry : Entry) → AreLawful lists → entry.phase < length lists → compare_last compare_entries (entries_from 0 lists) entry ≡ Less
    → new ≡ with_entry lists entry → entries_from 0 new ≡ entries_from 0 lists ++ entry ∷ []
entries_with lists new entry lawful within above e =
    let below = below_new lists entry lawful above in
    let placed = entry_placed 0 lists entry.phase entry.letters entry.analysis lawful
    (subst (λ new. AllByRecursion (λ other. compare_entries other new ≡ Less) (entries_from 0 lists)) (sym (line_itself entry)) below) in
    ap (entries_from 0) (e ∙ placed)
    ∙ lines_with 0 lists entry.phase entry.letters entry.analysis (empty_after lists entry.phase within (none_after lists entry lawful above))
    ∙ at_zero (entries_from 0 lists) entry
