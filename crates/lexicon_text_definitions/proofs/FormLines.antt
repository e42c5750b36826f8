-- Forms by phases, and their lines one after another: each determines the other. A line that comes after all others goes to the
-- end of its phase, by recursion to its place; and the lines of a phase build it up, form by form.
use Rattle.std.proofs.Common.{◌≡◌, ℕ, zero, suc, ◌+◌, ◌<◌, ◌≤◌, Bool, true, false, cond, if◌then◌else◌, List, [], ◌∷◌, ◌++◌, length, map, replicate, refl, sym, ◌∙◌, ap, subst, arith}
use Rattle.std.specs.List.{AllByRecursion}
use Rattle.std.specs.Str.{bytes_eq}
use Rattle.std.specs.List.Sorted.{IsStrictlySortedBy}
use Rattle.std.specs.Ordering.{nat_cmp}
use Rattle.std.specs.declared.cmp.Ordering.TheVariants.{Less}
use Rattle.std.proofs.lemmas.List.{append_assoc, append-nil, map-append}
use Rattle.std.proofs.lemmas.Map.Keys.{sorted_head, sorted_tail}
use Rattle.lexicon_definitions.specs.Analyses.{Analysis}
use Rattle.lexicon_definitions.specs.Lexicons.{Form}
use Rattle.lexicon_text_definitions.specs.FileContents.{compare_entries, entry_with, phase_entries, entries_from}
use Rattle.lexicon_definitions.specs.FormEntries.{Entry}
use Rattle.list_laws.proofs.Texts.{bytes_same}
use Rattle.list_laws.proofs.Orderings.{le_from_then}

-- ---- one entry more at the end

abbrev pub new_form : List ℕ → Analysis → Form
new_form letters analysis = record { letters = letters; analyses = analysis ∷ [] }

-- the form with one analysis more, where it has these letters; else a new form after it
abbrev pub after_form : Form → List ℕ → Analysis → List Form
after_form form letters analysis =
    if bytes_eq form.letters letters
    then record { letters = form.letters; analyses = form.analyses ++ analysis ∷ [] } ∷ []
    else form ∷ new_form letters analysis ∷ []

-- the forms of a phase with one analysis more, which goes to the last form where this has these letters
abbrev pub with_analysis : List Form → List ℕ → Analysis → List Form
with_analysis [] letters analysis = new_form letters analysis ∷ []
with_analysis (form ∷ []) letters analysis = after_form form letters analysis
with_analysis (first ∷ second ∷ forms) letters analysis = first ∷ with_analysis (second ∷ forms) letters analysis

-- the same in the phase with this number, counted from 0
abbrev pub with_form : List (List Form) → ℕ → List ℕ → Analysis → List (List Form)
with_form [] phase letters analysis = []
with_form (forms ∷ phases) zero letters analysis = with_analysis forms letters analysis ∷ phases
with_form (forms ∷ phases) (suc phase) letters analysis = forms ∷ with_form phases phase letters analysis

-- the phases with what these entries tell, one after another
abbrev pub with_lines : List (List Form) → List Entry → List (List Form)
with_lines phases [] = phases
with_lines phases (line ∷ lines) = with_lines (with_form phases line.phase line.letters line.analysis) lines

after_by : (phase : ℕ) (form : Form) (letters : List ℕ) (analysis : Analysis) (test : Bool) → bytes_eq form.letters letters ≡ test
    → phase_entries phase (cond test (record { letters = form.letters; analyses = form.analyses ++ analysis ∷ [] } ∷ []) (form ∷ new_form letters analysis ∷ []))
    ≡ phase_entries phase (form ∷ []) ++ entry_with phase letters analysis ∷ []
after_by phase form letters analysis true e =
    let same = bytes_same form.letters letters e in
    append-nil (map (entry_with phase form.letters) (form.analyses ++ analysis ∷ []))
    ∙ map-append (entry_with phase form.letters) form.analyses (analysis ∷ [])
    ∙ (λ i. sym (append-nil (map (entry_with phase form.letters) form.analyses)) i ++ entry_with phase (same i) analysis ∷ [])
after_by phase form letters analysis false e =
    sym (append_assoc (map (entry_with phase form.letters) form.analyses) [] (entry_with phase letters analysis ∷ []))

pub phase_lines_with : (phase : ℕ) (forms : List Form) (letters : List ℕ) (analysis : Analysis)
    → phase_entries phase (with_analysis forms letters analysis) ≡ phase_entries phase forms ++ entry_with phase letters analysis ∷ []
phase_lines_with phase [] letters analysis = refl
phase_lines_with phase (form ∷ []) letters analysis = after_by phase form letters analysis (bytes_eq form.letters letters) refl
phase_lines_with phase (first ∷ second ∷ forms) letters analysis =
    ap (λ lines. map (entry_with phase first.letters) first.analyses ++ lines) (phase_lines_with phase (second ∷ forms) letters analysis)
    ∙ sym (append_assoc (map (entry_with phase first.letters) first.analyses) (phase_entries phase (second ∷ forms)) (entry_with phase letters analysis ∷ []))

-- none of these phases has a form
abbrev pub AreEmpty : List (List Form) → Type 0
AreEmpty phases = AllByRecursion (λ forms. forms ≡ []) phases

-- there is a phase at this place, and none after it has a form
abbrev pub EmptyAfter : List (List Form) → ℕ → Type 0
EmptyAfter [] place = ⊥
EmptyAfter (forms ∷ phases) zero = AreEmpty phases
EmptyAfter (forms ∷ phases) (suc place) = EmptyAfter phases place

pub no_lines : (phase : ℕ) (phases : List (List Form)) → AreEmpty phases → entries_from phase phases ≡ []
no_lines phase [] h = refl
no_lines phase (forms ∷ phases) h = (λ i. phase_entries phase (h.0 i) ++ no_lines (phase + 1) phases h.1 i)

pub lines_with : (start : ℕ) (phases : List (List Form)) (place : ℕ) (letters : List ℕ) (analysis : Analysis) → EmptyAfter phases place
    → entries_from start (with_form phases place letters analysis) ≡ entries_from start phases ++ entry_with (start + place) letters analysis ∷ []
lines_with start [] place letters analysis h = absurd h
lines_with start (forms ∷ phases) zero letters analysis h =
    let none = no_lines (start + 1) phases h in
    let at : start ≡ start + 0 = omega arith in
    (λ i. phase_lines_with start forms letters analysis i ++ none i) ∙ append-nil _
    ∙ (λ i. sym (append-nil (phase_entries start forms)) i ++ entry_with (at i) letters analysis ∷ [])
    ∙ ap (λ rest. (phase_entries start forms ++ rest) ++ entry_with (start + 0) letters analysis ∷ []) (sym none)
lines_with start (forms ∷ phases) (suc place) letters analysis h =
    let at : start + 1 + place ≡ start + suc place = omega arith in
    ap (λ lines. phase_entries start forms ++ lines) (lines_with (start + 1) phases place letters analysis h)
    ∙ sym (append_assoc (phase_entries start forms) (entries_from (start + 1) phases) (entry_with (start + 1 + place) letters analysis ∷ []))
    ∙ ap (λ phase. (phase_entries start forms ++ entries_from (start + 1) phases) ++ entry_with phase letters analysis ∷ []) at

-- ---- which phases are empty

pub empty_kept : (phases : List (List Form)) (place : ℕ) (letters : List ℕ) (analysis : Analysis) → EmptyAfter phases place → EmptyAfter (with_form phases place letters analysis) place
empty_kept [] place letters analysis h = absurd h
empty_kept (forms ∷ phases) zero letters analysis h = h
empty_kept (forms ∷ phases) (suc place) letters analysis h = empty_kept phases place letters analysis h

empty_within : (phases : List (List Form)) (place : ℕ) → AreEmpty phases → place < length phases → EmptyAfter phases place
empty_within [] place h below = absurd (omega arith)
empty_within (forms ∷ phases) zero h below = h.1
empty_within (forms ∷ phases) (suc place) h below = empty_within phases place h.1 (omega arith)

pub empty_later : (phases : List (List Form)) (place later : ℕ) → EmptyAfter phases place → place ≤ later → later < length phases → EmptyAfter phases later
empty_later [] place later h up below = absurd h
empty_later (forms ∷ phases) zero zero h up below = h
empty_later (forms ∷ phases) zero (suc later) h up below = empty_within phases later h (omega arith)
empty_later (forms ∷ phases) (suc place) zero h up below = absurd (omega arith)
empty_later (forms ∷ phases) (suc place) (suc later) h up below = empty_later phases place later h (omega arith) (omega arith)

pub length-with : (phases : List (List Form)) (place : ℕ) (letters : List ℕ) (analysis : Analysis) → length (with_form phases place letters analysis) ≡ length phases
length-with [] place letters analysis = refl
length-with (forms ∷ phases) zero letters analysis = refl
length-with (forms ∷ phases) (suc place) letters analysis = ap suc (length-with phases place letters analysis)

pub none_at_first : (count : ℕ) → AreEmpty (replicate count [])
none_at_first zero = tt
none_at_first (suc count) = (refl, none_at_first count)

pub no_lines_at_first : (phase count : ℕ) → entries_from phase (replicate count []) ≡ []
no_lines_at_first phase count = no_lines phase (replicate count []) (none_at_first count)

-- ---- the lines of the phases that lines build up

phase_up : (left right : Entry) → compare_entries left right ≡ Less → left.phase ≤ right.phase
phase_up left right h = le_from_then left.phase right.phase (nat_cmp left.phase right.phase) refl _ h

-- each line has a phase from this one on, below this count
abbrev pub AreWithin : ℕ → ℕ → List Entry → Type 0
AreWithin from count lines = AllByRecursion (λ (line : Entry). (from ≤ line.phase) × (line.phase < count)) lines

pub rest_within : (first : Entry) (from count : ℕ) (lines : List Entry) → AllByRecursion (λ line. compare_entries first line ≡ Less) lines → AreWithin from count lines → AreWithin first.phase count lines
rest_within first from count [] s h = tt
rest_within first from count (line ∷ lines) s h = ((phase_up first line s.0, h.0.1), rest_within first from count lines s.1 h.1)

pub at_zero : (front : List Entry) (line : Entry) → front ++ entry_with (0 + line.phase) line.letters line.analysis ∷ [] ≡ front ++ line ∷ []
at_zero front line = let same : 0 + line.phase ≡ line.phase = omega arith in ap (λ phase. front ++ entry_with phase line.letters line.analysis ∷ []) same

pub lines_of_built : (phases : List (List Form)) (place : ℕ) (lines : List Entry) → EmptyAfter phases place → IsStrictlySortedBy compare_entries lines
    → AreWithin place (length phases) lines → entries_from 0 (with_lines phases lines) ≡ entries_from 0 phases ++ lines
lines_of_built phases place [] h s w = sym (append-nil (entries_from 0 phases))
lines_of_built phases place (line ∷ lines) h s w =
    let next = with_form phases line.phase line.letters line.analysis in
    let here = empty_later phases place line.phase h w.0.0 w.0.1 in
    let long : length phases ≡ length next = sym (length-with phases line.phase line.letters line.analysis) in
    let later = rest_within line place (length phases) lines (sorted_head compare_entries line lines s) w.1 in
    lines_of_built next line.phase lines (empty_kept phases line.phase line.letters line.analysis here) (sorted_tail compare_entries line lines s)
    (subst (λ count. AreWithin line.phase count lines) long later)
    ∙ ap (λ front. front ++ lines) (lines_with 0 phases line.phase line.letters line.analysis here ∙ at_zero (entries_from 0 phases) line)
    ∙ append_assoc (entries_from 0 phases) (line ∷ []) lines
