-- A lexicon has no more lines of forms than there are entries, where each of its entries is one of these: the lines, as entries,
-- differ, since phases, forms and analyses rise.
use Rattle.std.proofs.Common.{◌≡◌, ℕ, suc, ◌+◌, ◌≤◌, ◌⊎◌, inl, inr, List, [], ◌∷◌, ◌++◌, length, map, get_or, refl, sym, ◌∙◌, ap, subst, arith, length-append}
use Rattle.std.specs.Prelude.{Contains, sum_by}
use Rattle.std.specs.List.{AllByRecursion}
use Rattle.std.specs.List.Sorted.{IsStrictlySortedBy}
use Rattle.std.specs.Cmp.{IsTotalOrder}
use Rattle.std.specs.Ordering.{on}
use Rattle.std.specs.declared.cmp.Ordering.{Ordering}
use Rattle.std.specs.declared.cmp.Ordering.TheVariants.{Less}
use Rattle.std.proofs.lemmas.Cmp.{on_total, nat_list_cmp_total, tied_itself}
use Rattle.std.proofs.lemmas.List.{length-map}
use Rattle.std.proofs.lemmas.List.Elements.{recursion_from_All}
use Rattle.std.proofs.lemmas.List.Sums.{sum_by-cons}
use Rattle.std.proofs.lemmas.Map.Keys.{sorted_tail}
use Rattle.list_laws.proofs.Sorted.{Less-from_later}
use Rattle.text_definitions.specs.Words.{compare_words}
use Rattle.lexicon_definitions.specs.Analyses.{Analysis, compare_analyses}
use Rattle.lexicon_definitions.specs.FormEntries.{Entry, HasAnalysis, HasEntry}
use Rattle.lexicon_definitions.specs.Lexicons.{Form, Lexicon, IsFormEntry, IsPhase, IsLexicon}
use Rattle.lexicon_definitions.specs.Limits.{count_lines}
use Rattle.lexicon_definitions.proofs.FormsWithEntry.{analyses_total}
use Rattle.demo_definitions.proofs.DifferentElements.{In, AreDifferent, in_from_contains, contains_from_in, different_are_few, different_appended}

-- ---- elements of lists that are mapped, put together, or rise

in_map : {X Y : Type 0} (f : X → Y) (xs : List X) (y : Y) → In y (map f xs) → (x : X) × In x xs × (f x ≡ y)
in_map f [] y h = absurd h
in_map f (x ∷ xs) y (inl e) = (x, inl refl, e)
in_map f (x ∷ xs) y (inr m) = let found = in_map f xs y m in (found.0, inr found.1, found.2)

in_appended : {X : Type 0} (xs ys : List X) (x : X) → In x (xs ++ ys) → In x xs ⊎ In x ys
in_appended [] ys x h = inr h
in_appended (y ∷ xs) ys x (inl e) = inl (inl e)
in_appended (y ∷ xs) ys x (inr m) = elim (in_appended xs ys x m) [ inl l ↦ inl (inr l) | inr r ↦ inr r ]

different_mapped : {X Y : Type 0} (f : X → Y) → ((a b : X) → f a ≡ f b → a ≡ b) → (xs : List X) → AreDifferent xs → AreDifferent (map f xs)
different_mapped f one [] d = tt
different_mapped f one (x ∷ xs) d = (
  (λ m. let found = in_map f xs (f x) m in d.0 (subst (λ z. In z xs) (one found.0 x found.2) found.1)),
  different_mapped f one xs d.1,
)

module _ {X : Type 0} (compare : X → X → Ordering) (total : IsTotalOrder compare) where
  not_later : (x : X) (xs : List X) → IsStrictlySortedBy compare (x ∷ xs) → In x xs → ⊥
  not_later x xs s m =
      let less = Less-from_later total x xs x s (contains_from_in x xs m) in
      let tie = tied_itself total x in
      cc

  different_rising : (xs : List X) → IsStrictlySortedBy compare xs → AreDifferent xs
  different_rising [] s = tt
  different_rising (x ∷ xs) s = (not_later x xs s, different_rising xs (sorted_tail compare x xs s))

-- ---- the lines as entries

-- the line of an analysis of a form
abbrev line_of : ℕ → List ℕ → Analysis → Entry
line_of phase letters analysis = record { phase = phase; letters = letters; analysis = analysis }

lines_of_forms : ℕ → List Form → List Entry
lines_of_forms phase [] = []
lines_of_forms phase (form ∷ forms) = map (line_of phase form.letters) form.analyses ++ lines_of_forms phase forms

-- the lines of phases, the first of which has this number
lines_of : ℕ → List (List Form) → List Entry
lines_of phase [] = []
lines_of phase (forms ∷ phases) = lines_of_forms phase forms ++ lines_of (suc phase) phases

count_forms : (phase : ℕ) (forms : List Form) → length (lines_of_forms phase forms) ≡ sum_by (λ form. length form.analyses) forms
unfolding lines_of_forms
count_forms phase [] = refl
count_forms phase (form ∷ forms) =
    let rest = count_forms phase forms in
    let both = length-append (map (line_of phase form.letters) form.analyses) (lines_of_forms phase forms) in
    let mapped = length-map form.analyses (line_of phase form.letters) in
    let whole = sum_by-cons (λ (f : Form). length f.analyses) form forms in
    omega arith

count : (phase : ℕ) (phases : List (List Form)) → length (lines_of phase phases) ≡ count_lines phases
unfolding lines_of
count phase [] = refl
count phase (forms ∷ phases) =
    let rest = count (suc phase) phases in
    let both = length-append (lines_of_forms phase forms) (lines_of (suc phase) phases) in
    let here = count_forms phase forms in
    let whole = sum_by-cons (λ (fs : List Form). sum_by (λ (f : Form). length f.analyses) fs) forms phases in
    omega arith

-- a line of forms is one of an analysis of one of them
line_in_forms : (phase : ℕ) (forms : List Form) (entry : Entry) → In entry (lines_of_forms phase forms)
    → (entry.phase ≡ phase) × HasAnalysis forms entry.letters entry.analysis
unfolding lines_of_forms
line_in_forms phase [] entry h = absurd h
line_in_forms phase (form ∷ forms) entry h = elim (in_appended (map (line_of phase form.letters) form.analyses) (lines_of_forms phase forms) entry h) [
  | inl l ↦
      let found = in_map (line_of phase form.letters) form.analyses entry l in (
        ap (λ (e : Entry). e.phase) (sym found.2),
        record {
          form = form;
          is_among = contains_from_in form (form ∷ forms) (inl refl);
          has_letters = ap (λ (e : Entry). e.letters) found.2;
          is_analyzed = subst (λ (a : Analysis). Contains form.analyses a) (ap (λ (e : Entry). e.analysis) found.2) (contains_from_in found.0 form.analyses found.1);
        },
      )
  | inr r ↦
      let found = line_in_forms phase forms entry r in (
        found.0,
        record {
          form = found.1.form;
          is_among = contains_from_in found.1.form (form ∷ forms) (inr (in_from_contains found.1.form forms found.1.is_among));
          has_letters = found.1.has_letters;
          is_analyzed = found.1.is_analyzed;
        },
      )
]

-- a line of phases is one of the phase with its number
line_in : (phase : ℕ) (phases : List (List Form)) (entry : Entry) → In entry (lines_of phase phases)
    → (k : ℕ) × (entry.phase ≡ phase + k) × HasAnalysis (get_or phases k []) entry.letters entry.analysis
unfolding lines_of
line_in phase [] entry h = absurd h
line_in phase (forms ∷ phases) entry h = elim (in_appended (lines_of_forms phase forms) (lines_of (suc phase) phases) entry h) [
  | inl l ↦ let found = line_in_forms phase forms entry l in let same = found.0 in (0, omega arith, found.1)
  | inr r ↦ let found = line_in (suc phase) phases entry r in let same = found.1 in (suc found.0, omega arith, found.2)
]

-- ---- they differ

forms_differ : (phase : ℕ) (forms : List Form) → AllByRecursion IsFormEntry forms → IsStrictlySortedBy (on (λ (form : Form). form.letters) compare_words) forms
    → AreDifferent (lines_of_forms phase forms)
unfolding lines_of_forms
forms_differ phase [] each rising = tt
forms_differ phase (form ∷ forms) each rising =
    let total = on_total (λ (f : Form). f.letters) nat_list_cmp_total in
    different_appended (map (line_of phase form.letters) form.analyses) (lines_of_forms phase forms)
    (different_mapped (line_of phase form.letters) (λ a b e. ap (λ (entry : Entry). entry.analysis) e) form.analyses
    (different_rising compare_analyses analyses_total form.analyses each.0.rising))
    (forms_differ phase forms each.1 (sorted_tail (on (λ (f : Form). f.letters) compare_words) form forms rising))
    (λ entry l r.
    let here = in_map (line_of phase form.letters) form.analyses entry l in
    let there = (line_in_forms phase forms entry r).1 in
    let less = Less-from_later total form forms there.form rising there.is_among in
    let same : there.form.letters ≡ form.letters = there.has_letters ∙ ap (λ (e : Entry). e.letters) (sym here.2) in
    let tie = tied_itself nat_list_cmp_total form.letters in
    let below : compare_words form.letters form.letters ≡ Less = subst (λ letters. compare_words form.letters letters ≡ Less) same less in
    cc)

phases_differ : (phase : ℕ) (phases : List (List Form)) → AllByRecursion IsPhase phases → AreDifferent (lines_of phase phases)
unfolding lines_of
phases_differ phase [] each = tt
phases_differ phase (forms ∷ phases) each =
    different_appended (lines_of_forms phase forms) (lines_of (suc phase) phases)
    (forms_differ phase forms (recursion_from_All IsFormEntry forms each.0.each) each.0.rising)
    (phases_differ (suc phase) phases each.1)
    (λ entry l r.
    let here = (line_in_forms phase forms entry l).0 in
    let there = (line_in (suc phase) phases entry r).1 in
    omega arith)

-- there are no more lines than entries
pub no_more_lines : (lexicon : Lexicon) (entries : List Entry) → IsLexicon lexicon
    → ((entry : Entry) → HasEntry lexicon.phases entry → Contains entries entry) → count_lines lexicon.phases ≤ length entries
no_more_lines lexicon entries is among =
    let lines = lines_of 0 lexicon.phases in
    let few = different_are_few lines entries (phases_differ 0 lexicon.phases (recursion_from_All IsPhase lexicon.phases is.phases)) (λ entry m.
    let found = line_in 0 lexicon.phases entry m in
    let number : found.0 ≡ entry.phase = (let same = found.1 in omega arith) in
    in_from_contains entry entries (among entry (subst (λ (k : ℕ). HasAnalysis (get_or lexicon.phases k []) entry.letters entry.analysis) number found.2))) in
    let all = count 0 lexicon.phases in
    omega arith
