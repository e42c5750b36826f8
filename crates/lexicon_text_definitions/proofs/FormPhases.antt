-- What lines that rise build up are phases, and the lines of phases rise and build them up again. The last form of a phase
-- compares with a new line as its letters do, since it has an analysis; so the new line goes to it or after it.
use Rattle.std.proofs.Common.{◌≡◌, ◌≢◌, ℕ, zero, suc, ◌+◌, ◌<◌, ◌≤◌, ◌⊎◌, inl, inr, Bool, true, false, cond, List, [], ◌∷◌, ◌++◌, length, map, replicate, slice_set, slice_index_or, refl, sym, ◌∙◌, ap, subst, arith}
use Rattle.std.specs.List.{AllByRecursion}
use Rattle.std.specs.Str.{bytes_eq}
use Rattle.std.specs.List.Sorted.{IsStrictlySortedBy}
use Rattle.std.specs.Ordering.{nat_cmp, ordering_then, on}
use Rattle.std.specs.declared.cmp.Ordering.{Ordering}
use Rattle.std.specs.declared.cmp.Ordering.TheVariants.{Less, Equal, Greater}
use Rattle.std.proofs.lemmas.Cmp.{tied_itself, nat_cmp_total, ranked}
use Rattle.std.proofs.lemmas.List.{append_assoc, append-nil}
use Rattle.std.proofs.lemmas.List.Elements.{All-from_recursion, recursion_from_All, All-cons, All-nil, All-push}
use Rattle.std.proofs.lemmas.Map.Keys.{sorted_head, sorted_tail}
use Rattle.text_definitions.specs.Words.{IsWord, compare_words}
use Rattle.lexicon_definitions.specs.declared.limits.TheConstants.{MOST_FORM_LETTERS}
use Rattle.lexicon_definitions.specs.Analyses.{Analysis, compare_analyses}
use Rattle.lexicon_definitions.specs.Tags.{IsTagText}
use Rattle.lexicon_definitions.specs.Lexicons.{Form, IsFormEntry, IsAnalysis}
use Rattle.lexicon_definitions.specs.Limits.{IsShortForm}
use Rattle.list_laws.proofs.Sorted.{following_front, sorted_later, Contains-first, sorted_nil}
use Rattle.lexicon_text_definitions.specs.TextsOf.{HasSpelledStems}
use Rattle.lexicon_text_definitions.specs.FileContents.{compare_entries, with_entries, entry_with, phase_entries, entries_from}
use Rattle.lexicon_definitions.specs.FormEntries as entries
use Rattle.lexicon_definitions.specs.FormEntries.{Entry, placed_at, with_entry}
use Rattle.lexicon_text_definitions.proofs.FormLines.{new_form, with_analysis, with_form, with_lines}
use Rattle.lexicon_text_definitions.proofs.RisingLines.{words_total, lines_total, sorted_one, sorted_cons, sorted_with_last, last_by}
use Rattle.std.proofs.lemmas.Map.Lookups.{exact_bytes}
use Rattle.lexicon_text_definitions.proofs.FormLines.{EmptyAfter, empty_later, empty_kept, length-with, AreWithin, rest_within, lines_with, at_zero}
use Rattle.list_laws.proofs.Texts.{bytes_same, bytes_itself, bytes_apart}
use Rattle.lexicon_definitions.proofs.FormsWithEntry.{analyses_total, by_letters}
use Rattle.list_laws.proofs.Elements.{some_by_last}

-- ---- a line that is lawful by itself

pub record IsFormLine (count : ℕ) (line : Entry) : Type 0 where
  pub phase : line.phase < count
  pub word : IsWord line.letters
  pub some : line.letters ≢ []
  pub short : length line.letters ≤ MOST_FORM_LETTERS
  pub stem : IsWord line.analysis.stem
  pub some_stem : line.analysis.stem ≢ []
  pub short_stem : length line.analysis.stem ≤ MOST_FORM_LETTERS
  pub tag : IsTagText line.analysis.tag

-- a form that is lawful, short and has spelled stems
pub record IsLawfulForm (form : Form) : Type 0 where
  pub entry : IsFormEntry form
  pub short : IsShortForm form
  pub stems : HasSpelledStems form

-- a phase of these
pub record IsLawfulPhase (forms : List Form) : Type 0 where
  pub each : AllByRecursion IsLawfulForm forms
  pub rising : IsStrictlySortedBy (on (λ (form : Form). form.letters) compare_words) forms

-- ---- comparing lines of one phase

same_phase : (phase : ℕ) (order : Ordering) → ordering_then (nat_cmp phase phase) order ≡ order
same_phase phase order = let tie = tied_itself nat_cmp_total phase in ap (λ first. ordering_then first order) tie

less_by : (left right : List ℕ) (order rest : Ordering) → compare_words left right ≡ order → ordering_then order rest ≡ Less
    → (compare_words left right ≡ Less) ⊎ ((left ≡ right) × (rest ≡ Less))
less_by left right Less rest e h = inl e
less_by left right Equal rest e h = inr (exact_bytes left right e, h)
less_by left right Greater rest e h = absurd (cc)

-- a line is below another of its phase by its letters, or has the same and is below it by its analysis
line_below : (phase : ℕ) (left right : List ℕ) (a b : Analysis) → compare_entries (entry_with phase left a) (entry_with phase right b) ≡ Less
    → (compare_words left right ≡ Less) ⊎ ((left ≡ right) × (compare_analyses a b ≡ Less))
line_below phase left right a b h =
    less_by left right (compare_words left right) (compare_analyses a b) refl (sym (same_phase phase (ordering_then (compare_words left right) (compare_analyses a b))) ∙ h)

below_by_letters : (phase : ℕ) (left right : List ℕ) (a b : Analysis) → compare_words left right ≡ Less
    → compare_entries (entry_with phase left a) (entry_with phase right b) ≡ Less
below_by_letters phase left right a b h =
    same_phase phase (ordering_then (compare_words left right) (compare_analyses a b)) ∙ ap (λ order. ordering_then order (compare_analyses a b)) h

below_by_analysis : (phase : ℕ) (letters : List ℕ) (a b : Analysis) → compare_analyses a b ≡ Less
    → compare_entries (entry_with phase letters a) (entry_with phase letters b) ≡ Less
below_by_analysis phase letters a b h =
    let tie = tied_itself words_total letters in
    same_phase phase (ordering_then (compare_words letters letters) (compare_analyses a b)) ∙ ap (λ order. ordering_then order (compare_analyses a b)) tie ∙ h

-- ---- parts of a list of which all have a property

module _ {X : Type 0} (P : X → Type 0) where
  pub all_left : (xs ys : List X) → AllByRecursion P (xs ++ ys) → AllByRecursion P xs
  all_left [] ys h = tt
  all_left (x ∷ xs) ys h = (h.0, all_left xs ys h.1)

  pub all_right : (xs ys : List X) → AllByRecursion P (xs ++ ys) → AllByRecursion P ys
  all_right [] ys h = h
  all_right (x ∷ xs) ys h = all_right xs ys h.1

  pub all_both : (xs ys : List X) → AllByRecursion P xs → AllByRecursion P ys → AllByRecursion P (xs ++ ys)
  all_both [] ys h k = k
  all_both (x ∷ xs) ys h k = (h.0, all_both xs ys h.1 k)

-- ---- with one line more a phase is lawful

-- the lines of a phase are below a line of it with these letters and this analysis
abbrev pub AreBelow : ℕ → List Entry → List ℕ → Analysis → Type 0
AreBelow phase lines letters analysis = AllByRecursion (λ line. compare_entries line (entry_with phase letters analysis) ≡ Less) lines

-- a form of it, which has an analysis, is below by its letters or has these
form_below : (phase : ℕ) (form : Form) (analyses : List Analysis) (letters : List ℕ) (analysis : Analysis) → form.analyses ≡ analyses → analyses ≢ []
    → AreBelow phase (map (entry_with phase form.letters) analyses) letters analysis → (compare_words form.letters letters ≡ Less) ⊎ (form.letters ≡ letters)
form_below phase form [] letters analysis e n h = absurd (n refl)
form_below phase form (a ∷ analyses) letters analysis e n h =
    elim (line_below phase form.letters letters a analysis h.0) [ inl less ↦ inl less | inr both ↦ inr both.0 ]

-- where it has these, its analyses are below this one
analyses_below : (phase : ℕ) (letters : List ℕ) (analyses : List Analysis) (analysis : Analysis) → AreBelow phase (map (entry_with phase letters) analyses) letters analysis
    → AllByRecursion (λ a. compare_analyses a analysis ≡ Less) analyses
analyses_below phase letters [] analysis h = tt
analyses_below phase letters (a ∷ analyses) analysis h =
    let first : compare_analyses a analysis ≡ Less = elim (line_below phase letters letters a analysis h.0) [
      | inl less ↦ absurd (let tie = tied_itself words_total letters in cc)
      | inr both ↦ both.1
    ] in
    (first, analyses_below phase letters analyses analysis h.1)

-- an analysis that is lawful, short and has a spelled stem
pub record IsLawfulAnalysis (analysis : Analysis) : Type 0 where
  pub stem : IsWord analysis.stem
  pub some_stem : analysis.stem ≢ []
  pub short_stem : length analysis.stem ≤ MOST_FORM_LETTERS
  pub tag : IsTagText analysis.tag

form_of_one : (letters : List ℕ) (analysis : Analysis) → IsWord letters → letters ≢ [] → length letters ≤ MOST_FORM_LETTERS → IsLawfulAnalysis analysis
    → IsLawfulForm (new_form letters analysis)
form_of_one letters analysis w n l a = record {
  entry = record {
    word = w;
    not_empty = n;
    analyzed = λ e. cc;
    analyses = All-cons IsAnalysis analysis [] (record { stem = a.stem; tag = a.tag }) (All-nil IsAnalysis);
    rising = sorted_one compare_analyses analysis;
  };
  short = record { letters = l; stems = All-cons (λ (a : Analysis). length a.stem ≤ MOST_FORM_LETTERS) analysis [] a.short_stem (All-nil _) };
  stems = All-cons (λ (a : Analysis). IsWord a.stem × (a.stem ≢ [])) analysis [] (a.stem, a.some_stem) (All-nil _);
}

form_of_more : (form : Form) (analysis : Analysis) → IsLawfulForm form → IsLawfulAnalysis analysis → AllByRecursion (λ a. compare_analyses a analysis ≡ Less) form.analyses
    → IsLawfulForm (record { letters = form.letters; analyses = form.analyses ++ analysis ∷ [] })
form_of_more form analysis f a below = record {
  entry = record {
    word = f.entry.word;
    not_empty = f.entry.not_empty;
    analyzed = some_by_last form.analyses analysis;
    analyses = All-push IsAnalysis form.analyses analysis f.entry.analyses (record { stem = a.stem; tag = a.tag });
    rising = sorted_with_last analyses_total form.analyses analysis f.entry.rising
        (last_by analyses_total form.analyses analysis (All-from_recursion (λ a. compare_analyses a analysis ≡ Less) form.analyses below));
  };
  short = record { letters = f.short.letters; stems = All-push (λ (a : Analysis). length a.stem ≤ MOST_FORM_LETTERS) form.analyses analysis f.short.stems a.short_stem };
  stems = All-push (λ (a : Analysis). IsWord a.stem × (a.stem ≢ [])) form.analyses analysis f.stems (a.stem, a.some_stem);
}

last_form : (phase : ℕ) (form : Form) (letters : List ℕ) (analysis : Analysis) (test : Bool) → bytes_eq form.letters letters ≡ test → IsLawfulForm form → IsLawfulForm (new_form letters analysis)
    → IsLawfulAnalysis analysis → AreBelow phase (map (entry_with phase form.letters) form.analyses) letters analysis
    → IsLawfulPhase (cond test (record { letters = form.letters; analyses = form.analyses ++ analysis ∷ [] } ∷ []) (form ∷ new_form letters analysis ∷ []))
last_form phase form letters analysis true e f n a below =
    let same = bytes_same form.letters letters e in
    let lower = analyses_below phase form.letters form.analyses analysis (subst (λ w. AreBelow phase (map (entry_with phase form.letters) form.analyses) w analysis) (sym same) below) in
    record { each = (form_of_more form analysis f a lower, tt); rising = sorted_one by_letters _ }
last_form phase form letters analysis false e f n a below =
    let less : compare_words form.letters letters ≡ Less = elim (form_below phase form form.analyses letters analysis refl f.entry.analyzed below) [
      | inl less ↦ less
      | inr same ↦ absurd (let yes = bytes_itself form.letters in let no : bytes_eq form.letters form.letters ≡ false = subst (λ w. bytes_eq form.letters w ≡ false) (sym same) e in cc)
    ] in
    record { each = (f, (n, tt)); rising = sorted_cons by_letters form (new_form letters analysis ∷ []) (less, tt) (sorted_one by_letters _) }

after_all : (first : Form) (form : Form) (letters : List ℕ) (analysis : Analysis) (test : Bool) → compare_words first.letters form.letters ≡ Less → compare_words first.letters letters ≡ Less
    → AllByRecursion (λ other. by_letters first other ≡ Less) (cond test (record { letters = form.letters; analyses = form.analyses ++ analysis ∷ [] } ∷ []) (form ∷ new_form letters analysis ∷ []))
after_all first form letters analysis true h l = (h, tt)
after_all first form letters analysis false h l = (h, (l, tt))

above_with : (first : Form) (forms : List Form) (letters : List ℕ) (analysis : Analysis) → AllByRecursion (λ other. by_letters first other ≡ Less) forms → compare_words first.letters letters ≡ Less
    → AllByRecursion (λ other. by_letters first other ≡ Less) (with_analysis forms letters analysis)
above_with first [] letters analysis h l = (l, tt)
above_with first (form ∷ []) letters analysis h l = after_all first form letters analysis (bytes_eq form.letters letters) h.0 l
above_with first (form ∷ second ∷ forms) letters analysis h l = (h.0, above_with first (second ∷ forms) letters analysis h.1 l)

pub lawful_phase_with : (phase : ℕ) (forms : List Form) (letters : List ℕ) (analysis : Analysis) → IsLawfulPhase forms → IsLawfulForm (new_form letters analysis) → IsLawfulAnalysis analysis
    → AreBelow phase (phase_entries phase forms) letters analysis → IsLawfulPhase (with_analysis forms letters analysis)
lawful_phase_with phase [] letters analysis p n a below = record { each = (n, tt); rising = sorted_one by_letters _ }
lawful_phase_with phase (form ∷ []) letters analysis p n a below =
    last_form phase form letters analysis (bytes_eq form.letters letters) refl p.each.0 n a
    (all_left (λ line. compare_entries line (entry_with phase letters analysis) ≡ Less) (map (entry_with phase form.letters) form.analyses) [] below)
lawful_phase_with phase (first ∷ second ∷ forms) letters analysis p n a below =
    let rest = all_right (λ line. compare_entries line (entry_with phase letters analysis) ≡ Less) (map (entry_with phase first.letters) first.analyses) (phase_entries phase (second ∷ forms)) below in
    let lines = all_left (λ line. compare_entries line (entry_with phase letters analysis) ≡ Less) (map (entry_with phase first.letters) first.analyses) (phase_entries phase (second ∷ forms)) below in
    let second_lines = all_left (λ line. compare_entries line (entry_with phase letters analysis) ≡ Less) (map (entry_with phase second.letters) second.analyses) (phase_entries phase forms) rest in
    let step : compare_words first.letters second.letters ≡ Less = (sorted_head by_letters first (second ∷ forms) p.rising).0 in
    let less : compare_words first.letters letters ≡ Less = elim (form_below phase second second.analyses letters analysis refl p.each.1.0.entry.analyzed second_lines) [
      | inl less ↦ words_total.trans first.letters second.letters letters step less
      | inr same ↦ subst (λ w. compare_words first.letters w ≡ Less) same step
    ] in
    let later = lawful_phase_with phase (second ∷ forms) letters analysis (record { each = p.each.1; rising = sorted_tail by_letters first (second ∷ forms) p.rising }) n a rest in
    record {
      each = (p.each.0, later.each);
      rising = sorted_cons by_letters first (with_analysis (second ∷ forms) letters analysis)
          (above_with first (second ∷ forms) letters analysis (sorted_head by_letters first (second ∷ forms) p.rising) less) later.rising;
    }

-- ---- all phases with lines that rise

abbrev pub AreLawful : List (List Form) → Type 0
AreLawful phases = AllByRecursion IsLawfulPhase phases

lawful_with : (start : ℕ) (phases : List (List Form)) (place : ℕ) (letters : List ℕ) (analysis : Analysis) → AreLawful phases → IsLawfulForm (new_form letters analysis)
    → IsLawfulAnalysis analysis → AreBelow (start + place) (entries_from start phases) letters analysis → AreLawful (with_form phases place letters analysis)
lawful_with start [] place letters analysis p n a below = tt
lawful_with start (forms ∷ phases) zero letters analysis p n a below =
    let at : start + 0 ≡ start = omega arith in
    let here = subst (λ phase. AreBelow phase (entries_from start (forms ∷ phases)) letters analysis) at below in (
      lawful_phase_with start forms letters analysis p.0 n a
          (all_left (λ line. compare_entries line (entry_with start letters analysis) ≡ Less) (phase_entries start forms) (entries_from (start + 1) phases) here),
      p.1,
    )
lawful_with start (forms ∷ phases) (suc place) letters analysis p n a below =
    let at : start + suc place ≡ start + 1 + place = omega arith in
    let there = subst (λ phase. AreBelow phase (entries_from start (forms ∷ phases)) letters analysis) at below in (
      p.0,
      lawful_with (start + 1) phases place letters analysis p.1 n a
          (all_right (λ line. compare_entries line (entry_with (start + 1 + place) letters analysis) ≡ Less) (phase_entries start forms) (entries_from (start + 1) phases) there),
    )

pub line_itself : (line : Entry) → entry_with (0 + line.phase) line.letters line.analysis ≡ line
line_itself line = let same : 0 + line.phase ≡ line.phase = omega arith in ap (λ phase. entry_with phase line.letters line.analysis) same

lawful_analysis : (count : ℕ) (line : Entry) → IsFormLine count line → IsLawfulAnalysis line.analysis
lawful_analysis count line h = record { stem = h.stem; some_stem = h.some_stem; short_stem = h.short_stem; tag = h.tag }

-- what rising lines build up is lawful, where they come after what was there
pub lawful_built : (count : ℕ) (phases : List (List Form)) (place : ℕ) (lines : List Entry) → EmptyAfter phases place → AreLawful phases → AllByRecursion (IsFormLine count) lines
    → AreWithin place (length phases) lines → IsStrictlySortedBy compare_entries (entries_from 0 phases ++ lines) → AreLawful (with_lines phases lines)
lawful_built count phases place [] e p h w s = p
lawful_built count phases place (line ∷ lines) e p h w s =
    let next = with_form phases line.phase line.letters line.analysis in
    let here = empty_later phases place line.phase e w.0.0 w.0.1 in
    let all = recursion_from_All (λ other. compare_entries other line ≡ Less) (entries_from 0 phases) (following_front lines_total (entries_from 0 phases) (line ∷ lines) line s (Contains-first line lines)) in
    let below : AreBelow (0 + line.phase) (entries_from 0 phases) line.letters line.analysis =
    subst (λ new. AllByRecursion (λ other. compare_entries other new ≡ Less) (entries_from 0 phases)) (sym (line_itself line)) all in
    let a = lawful_analysis count line h.0 in
    let lawful = lawful_with 0 phases line.phase line.letters line.analysis p (form_of_one line.letters line.analysis h.0.word h.0.some h.0.short a) a below in
    let joined : entries_from 0 next ≡ entries_from 0 phases ++ line ∷ [] = lines_with 0 phases line.phase line.letters line.analysis here ∙ at_zero (entries_from 0 phases) line in
    let sorted = subst (IsStrictlySortedBy compare_entries) (sym (append_assoc (entries_from 0 phases) (line ∷ []) lines) ∙ ap (λ front. front ++ lines) (sym joined)) s in
    let head = sorted_head compare_entries line lines (sorted_later lines_total (entries_from 0 phases) (line ∷ lines) s) in
    let within = subst (λ n. AreWithin line.phase n lines) (sym (length-with phases line.phase line.letters line.analysis)) (rest_within line place (length phases) lines head w.1) in
    lawful_built count next line.phase lines (empty_kept phases line.phase line.letters line.analysis here) lawful h.1 within sorted

pub length-built : (phases : List (List Form)) (lines : List Entry) → length (with_lines phases lines) ≡ length phases
length-built phases [] = refl
length-built phases (line ∷ lines) =
    length-built (with_form phases line.phase line.letters line.analysis) lines ∙ length-with phases line.phase line.letters line.analysis

-- ---- the lines of lawful phases

sorted_both : {X : Type 0} (R : X → X → Ordering) (xs ys : List X) → IsStrictlySortedBy R xs → IsStrictlySortedBy R ys
    → AllByRecursion (λ x. AllByRecursion (λ y. R x y ≡ Less) ys) xs → IsStrictlySortedBy R (xs ++ ys)
sorted_both R [] ys s t h = t
sorted_both R (x ∷ xs) ys s t h =
    sorted_cons R x (xs ++ ys) (all_both (λ y. R x y ≡ Less) xs ys (sorted_head R x xs s) h.0) (sorted_both R xs ys (sorted_tail R x xs s) t h.1)

each_below : (phase : ℕ) (letters : List ℕ) (a : Analysis) (analyses : List Analysis) → AllByRecursion (λ b. compare_analyses a b ≡ Less) analyses
    → AllByRecursion (λ line. compare_entries (entry_with phase letters a) line ≡ Less) (map (entry_with phase letters) analyses)
each_below phase letters a [] h = tt
each_below phase letters a (b ∷ analyses) h = (below_by_analysis phase letters a b h.0, each_below phase letters a analyses h.1)

analyses_rise : (phase : ℕ) (letters : List ℕ) (analyses : List Analysis) → IsStrictlySortedBy compare_analyses analyses
    → IsStrictlySortedBy compare_entries (map (entry_with phase letters) analyses)
analyses_rise phase letters [] s = sorted_nil compare_entries
analyses_rise phase letters (a ∷ analyses) s =
    sorted_cons compare_entries (entry_with phase letters a) (map (entry_with phase letters) analyses)
    (each_below phase letters a analyses (sorted_head compare_analyses a analyses s)) (analyses_rise phase letters analyses (sorted_tail compare_analyses a analyses s))

letters_below : (phase : ℕ) (letters other : List ℕ) (a : Analysis) (analyses : List Analysis) → compare_words letters other ≡ Less
    → AllByRecursion (λ line. compare_entries (entry_with phase letters a) line ≡ Less) (map (entry_with phase other) analyses)
letters_below phase letters other a [] h = tt
letters_below phase letters other a (b ∷ analyses) h = (below_by_letters phase letters other a b h, letters_below phase letters other a analyses h)

forms_below : (phase : ℕ) (first : Form) (a : Analysis) (forms : List Form) → AllByRecursion (λ other. by_letters first other ≡ Less) forms
    → AllByRecursion (λ line. compare_entries (entry_with phase first.letters a) line ≡ Less) (phase_entries phase forms)
forms_below phase first a [] h = tt
forms_below phase first a (form ∷ forms) h =
    all_both (λ line. compare_entries (entry_with phase first.letters a) line ≡ Less) (map (entry_with phase form.letters) form.analyses) (phase_entries phase forms)
    (letters_below phase first.letters form.letters a form.analyses h.0) (forms_below phase first a forms h.1)

first_below : (phase : ℕ) (first : Form) (analyses : List Analysis) (forms : List Form) → AllByRecursion (λ other. by_letters first other ≡ Less) forms
    → AllByRecursion (λ x. AllByRecursion (λ y. compare_entries x y ≡ Less) (phase_entries phase forms)) (map (entry_with phase first.letters) analyses)
first_below phase first [] forms h = tt
first_below phase first (a ∷ analyses) forms h = (forms_below phase first a forms h, first_below phase first analyses forms h)

phase_rises : (phase : ℕ) (forms : List Form) → AllByRecursion IsLawfulForm forms → IsStrictlySortedBy by_letters forms → IsStrictlySortedBy compare_entries (phase_entries phase forms)
phase_rises phase [] h s = sorted_nil compare_entries
phase_rises phase (form ∷ forms) h s =
    sorted_both compare_entries (map (entry_with phase form.letters) form.analyses) (phase_entries phase forms)
    (analyses_rise phase form.letters form.analyses h.0.entry.rising) (phase_rises phase forms h.1 (sorted_tail by_letters form forms s))
    (first_below phase form form.analyses forms (sorted_head by_letters form forms s))

-- lines with their phases
abbrev HavePhase : ℕ → List Entry → Type 0
HavePhase phase lines = AllByRecursion (λ (line : Entry). line.phase ≡ phase) lines

mapped_phase : (phase : ℕ) (letters : List ℕ) (analyses : List Analysis) → HavePhase phase (map (entry_with phase letters) analyses)
mapped_phase phase letters [] = tt
mapped_phase phase letters (a ∷ analyses) = (refl, mapped_phase phase letters analyses)

have_phase : (phase : ℕ) (forms : List Form) → HavePhase phase (phase_entries phase forms)
have_phase phase [] = tt
have_phase phase (form ∷ forms) =
    all_both (λ (line : Entry). line.phase ≡ phase) (map (entry_with phase form.letters) form.analyses) (phase_entries phase forms) (mapped_phase phase form.letters form.analyses) (have_phase phase forms)

abbrev HaveFrom : ℕ → List Entry → Type 0
HaveFrom phase lines = AllByRecursion (λ (line : Entry). phase ≤ line.phase) lines

from_phase : (from phase : ℕ) (lines : List Entry) → from ≤ phase → HavePhase phase lines → HaveFrom from lines
from_phase from phase [] l h = tt
from_phase from phase (line ∷ lines) l h = (let same = h.0 in omega arith, from_phase from phase lines l h.1)

from_start : (from start : ℕ) (phases : List (List Form)) → from ≤ start → HaveFrom from (entries_from start phases)
from_start from start [] l = tt
from_start from start (forms ∷ phases) l =
    all_both (λ (line : Entry). from ≤ line.phase) (phase_entries start forms) (entries_from (start + 1) phases)
    (from_phase from start (phase_entries start forms) l (have_phase start forms)) (from_start from (start + 1) phases (omega arith))

less_phase : (m n : ℕ) (order : Ordering) → order ≡ nat_cmp m n → m < n → order ≡ Less
less_phase m n Less e l = refl
less_phase m n Equal e l = let same = ranked m n Equal e in absurd (omega arith)
less_phase m n Greater e l = let above = ranked m n Greater e in absurd (omega arith)

below_by_phase : (left right : Entry) → left.phase < right.phase → compare_entries left right ≡ Less
below_by_phase left right l =
    let less : nat_cmp left.phase right.phase ≡ Less = less_phase left.phase right.phase (nat_cmp left.phase right.phase) refl l in
    ap (λ order. ordering_then order (ordering_then (compare_words left.letters right.letters) (compare_analyses left.analysis right.analysis))) less

line_below_all : (left : Entry) (phase : ℕ) (lines : List Entry) → left.phase ≡ phase → HaveFrom (phase + 1) lines → AllByRecursion (λ line. compare_entries left line ≡ Less) lines
line_below_all left phase [] e h = tt
line_below_all left phase (line ∷ lines) e h = (below_by_phase left line (let l = h.0 in omega arith), line_below_all left phase lines e h.1)

all_below_all : (phase : ℕ) (lefts lines : List Entry) → HavePhase phase lefts → HaveFrom (phase + 1) lines → AllByRecursion (λ left. AllByRecursion (λ line. compare_entries left line ≡ Less) lines) lefts
all_below_all phase [] lines p h = tt
all_below_all phase (left ∷ lefts) lines p h = (line_below_all left phase lines p.0 h, all_below_all phase lefts lines p.1 h)

-- the lines of lawful phases rise
pub lines_rise : (start : ℕ) (phases : List (List Form)) → AreLawful phases → IsStrictlySortedBy compare_entries (entries_from start phases)
lines_rise start [] h = sorted_nil compare_entries
lines_rise start (forms ∷ phases) h =
    sorted_both compare_entries (phase_entries start forms) (entries_from (start + 1) phases) (phase_rises start forms h.0.each h.0.rising) (lines_rise (start + 1) phases h.1)
    (all_below_all start (phase_entries start forms) (entries_from (start + 1) phases) (have_phase start forms) (from_start (start + 1) (start + 1) phases (omega arith)))

-- and each is lawful
module _ (count : ℕ) where
  lines_of_form : (phase : ℕ) (form : Form) (analyses : List Analysis) → phase < count → IsLawfulForm form → AllByRecursion IsAnalysis analyses
      → AllByRecursion (λ (a : Analysis). IsWord a.stem × (a.stem ≢ [])) analyses → AllByRecursion (λ (a : Analysis). length a.stem ≤ MOST_FORM_LETTERS) analyses
      → AllByRecursion (IsFormLine count) (map (entry_with phase form.letters) analyses)
  lines_of_form phase form [] l f h s t = tt
  lines_of_form phase form (a ∷ analyses) l f h s t = (
    record { phase = l; word = f.entry.word; some = f.entry.not_empty; short = f.short.letters; stem = h.0.stem; some_stem = s.0.1; short_stem = t.0; tag = h.0.tag },
    lines_of_form phase form analyses l f h.1 s.1 t.1,
  )

  lines_of_phase : (phase : ℕ) (forms : List Form) → phase < count → AllByRecursion IsLawfulForm forms → AllByRecursion (IsFormLine count) (phase_entries phase forms)
  lines_of_phase phase [] l h = tt
  lines_of_phase phase (form ∷ forms) l h =
      all_both (IsFormLine count) (map (entry_with phase form.letters) form.analyses) (phase_entries phase forms)
      (lines_of_form phase form form.analyses l h.0 (recursion_from_All IsAnalysis form.analyses h.0.entry.analyses)
      (recursion_from_All (λ (a : Analysis). IsWord a.stem × (a.stem ≢ [])) form.analyses h.0.stems)
      (recursion_from_All (λ (a : Analysis). length a.stem ≤ MOST_FORM_LETTERS) form.analyses h.0.short.stems))
      (lines_of_phase phase forms l h.1)

  pub lines_lawful : (start : ℕ) (phases : List (List Form)) → start + length phases ≤ count → AreLawful phases → AllByRecursion (IsFormLine count) (entries_from start phases)
  lines_lawful start [] l h = tt
  lines_lawful start (forms ∷ phases) l h =
      all_both (IsFormLine count) (phase_entries start forms) (entries_from (start + 1) phases)
      (lines_of_phase start forms (omega arith) h.0.each) (lines_lawful (start + 1) phases (omega arith) h.1)

-- ---- the lines of lawful phases build them up

with_lines-append : (phases : List (List Form)) (lines more : List Entry) → with_lines phases (lines ++ more) ≡ with_lines (with_lines phases lines) more
with_lines-append phases [] more = refl
with_lines-append phases (line ∷ lines) more = with_lines-append (with_form phases line.phase line.letters line.analysis) lines more

-- the lines of the phases after the first leave it as it is
analyses_later : (forms : List Form) (phases : List (List Form)) (phase : ℕ) (letters : List ℕ) (analyses : List Analysis)
    → with_lines (forms ∷ phases) (map (entry_with (suc phase) letters) analyses) ≡ forms ∷ with_lines phases (map (entry_with phase letters) analyses)
analyses_later forms phases phase letters [] = refl
analyses_later forms phases phase letters (a ∷ analyses) = analyses_later forms (with_form phases phase letters a) phase letters analyses

forms_later : (forms : List Form) (phases : List (List Form)) (phase : ℕ) (more : List Form)
    → with_lines (forms ∷ phases) (phase_entries (suc phase) more) ≡ forms ∷ with_lines phases (phase_entries phase more)
forms_later forms phases phase [] = refl
forms_later forms phases phase (form ∷ more) =
    let lines = map (entry_with phase form.letters) form.analyses in
    with_lines-append (forms ∷ phases) (map (entry_with (suc phase) form.letters) form.analyses) (phase_entries (suc phase) more)
    ∙ ap (λ built. with_lines built (phase_entries (suc phase) more)) (analyses_later forms phases phase form.letters form.analyses)
    ∙ forms_later forms (with_lines phases lines) phase more
    ∙ ap (◌∷◌ forms) (sym (with_lines-append phases lines (phase_entries phase more)))

phases_later : (forms : List Form) (phases : List (List Form)) (start : ℕ) (more : List (List Form))
    → with_lines (forms ∷ phases) (entries_from (suc start) more) ≡ forms ∷ with_lines phases (entries_from start more)
phases_later forms phases start [] = refl
phases_later forms phases start (first ∷ more) =
    let up : suc start + 1 ≡ suc (start + 1) = omega arith in
    ap (λ n. with_lines (forms ∷ phases) (phase_entries (suc start) first ++ entries_from n more)) up
    ∙ with_lines-append (forms ∷ phases) (phase_entries (suc start) first) (entries_from (suc (start + 1)) more)
    ∙ ap (λ built. with_lines built (entries_from (suc (start + 1)) more)) (forms_later forms phases start first)
    ∙ phases_later forms (with_lines phases (phase_entries start first)) (start + 1) more
    ∙ ap (◌∷◌ forms) (sym (with_lines-append phases (phase_entries start first) (entries_from (start + 1) more)))

same_last : (before : List Form) (form : Form) (analysis : Analysis) → with_analysis (before ++ form ∷ []) form.letters analysis ≡ before ++ record { letters = form.letters; analyses = form.analyses ++ analysis ∷ [] } ∷ []
same_last [] form analysis =
    ap (λ test. cond test (record { letters = form.letters; analyses = form.analyses ++ analysis ∷ [] } ∷ []) (form ∷ new_form form.letters analysis ∷ [])) (bytes_itself form.letters)
same_last (first ∷ []) form analysis = ap (◌∷◌ first) (same_last [] form analysis)
same_last (first ∷ second ∷ before) form analysis = ap (◌∷◌ first) (same_last (second ∷ before) form analysis)

other_last : (before : List Form) (letters : List ℕ) (analysis : Analysis) → AllByRecursion (λ (form : Form). form.letters ≢ letters) before → with_analysis before letters analysis ≡ before ++ new_form letters analysis ∷ []
other_last [] letters analysis h = refl
other_last (form ∷ []) letters analysis h =
    ap (λ test. cond test (record { letters = form.letters; analyses = form.analyses ++ analysis ∷ [] } ∷ []) (form ∷ new_form letters analysis ∷ [])) (bytes_apart form.letters letters h.0)
other_last (first ∷ second ∷ before) letters analysis h = ap (◌∷◌ first) (other_last (second ∷ before) letters analysis h.1)

analyses_build : (before : List Form) (phases : List (List Form)) (letters : List ℕ) (done analyses : List Analysis)
    → with_lines ((before ++ record { letters = letters; analyses = done } ∷ []) ∷ phases) (map (entry_with 0 letters) analyses)
    ≡ (before ++ record { letters = letters; analyses = done ++ analyses } ∷ []) ∷ phases
analyses_build before phases letters done [] = ap (λ all. (before ++ record { letters = letters; analyses = all } ∷ []) ∷ phases) (sym (append-nil done))
analyses_build before phases letters done (a ∷ analyses) =
    ap (λ forms. with_lines (forms ∷ phases) (map (entry_with 0 letters) analyses)) (same_last before (record { letters = letters; analyses = done }) a)
    ∙ analyses_build before phases letters (done ++ a ∷ []) analyses
    ∙ ap (λ all. (before ++ record { letters = letters; analyses = all } ∷ []) ∷ phases) (append_assoc done (a ∷ []) analyses)

form_builds : (before : List Form) (phases : List (List Form)) (letters : List ℕ) (analyses : List Analysis) → analyses ≢ [] → AllByRecursion (λ (form : Form). form.letters ≢ letters) before
    → with_lines (before ∷ phases) (map (entry_with 0 letters) analyses) ≡ (before ++ record { letters = letters; analyses = analyses } ∷ []) ∷ phases
form_builds before phases letters [] n h = absurd (n refl)
form_builds before phases letters (a ∷ analyses) n h =
    ap (λ forms. with_lines (forms ∷ phases) (map (entry_with 0 letters) analyses)) (other_last before letters a h) ∙ analyses_build before phases letters (a ∷ []) analyses

apart_from_less : (left right : List ℕ) → compare_words left right ≡ Less → left ≢ right
apart_from_less left right h e = let tie = tied_itself words_total left in let less : compare_words left left ≡ Less = subst (λ w. compare_words left w ≡ Less) (sym e) h in cc

others_before : (before : List Form) (form : Form) (forms : List Form) → IsStrictlySortedBy by_letters (before ++ form ∷ forms) → AllByRecursion (λ (other : Form). other.letters ≢ form.letters) before
others_before [] form forms s = tt
others_before (first ∷ before) form forms s = (
  apart_from_less first.letters form.letters (all_right (λ other. by_letters first other ≡ Less) before (form ∷ forms) (sorted_head by_letters first (before ++ form ∷ forms) s)).0,
  others_before before form forms (sorted_tail by_letters first (before ++ form ∷ forms) s),
)

phase_builds : (before : List Form) (phases : List (List Form)) (forms : List Form) → AllByRecursion IsLawfulForm forms → IsStrictlySortedBy by_letters (before ++ forms)
    → with_lines (before ∷ phases) (phase_entries 0 forms) ≡ (before ++ forms) ∷ phases
phase_builds before phases [] h s = ap (λ forms. forms ∷ phases) (sym (append-nil before))
phase_builds before phases (form ∷ forms) h s =
    with_lines-append (before ∷ phases) (map (entry_with 0 form.letters) form.analyses) (phase_entries 0 forms)
    ∙ ap (λ built. with_lines built (phase_entries 0 forms)) (form_builds before phases form.letters form.analyses h.0.entry.analyzed (others_before before form forms s))
    ∙ phase_builds (before ++ form ∷ []) phases forms h.1 (subst (IsStrictlySortedBy by_letters) (sym (append_assoc before (form ∷ []) forms)) s)
    ∙ ap (λ forms. forms ∷ phases) (append_assoc before (form ∷ []) forms)

-- the lines of lawful phases build these up from phases without forms
pub phases_built : (phases : List (List Form)) → AreLawful phases → with_lines (replicate (length phases) []) (entries_from 0 phases) ≡ phases
phases_built [] h = refl
phases_built (forms ∷ phases) h =
    with_lines-append ([] ∷ replicate (length phases) []) (phase_entries 0 forms) (entries_from 1 phases)
    ∙ ap (λ built. with_lines built (entries_from 1 phases)) (phase_builds [] (replicate (length phases) []) forms h.0.each h.0.rising)
    ∙ phases_later forms (replicate (length phases) []) 0 phases
    ∙ ap (◌∷◌ forms) (phases_built phases h.1)

-- ---- an entry after all others goes to the end

analysis_placed : (analysis : Analysis) (analyses : List Analysis) → AllByRecursion (λ a. compare_analyses a analysis ≡ Less) analyses
    → entries.with_analysis analysis analyses ≡ analyses ++ analysis ∷ []
analysis_placed analysis [] h = refl
analysis_placed analysis (a ∷ analyses) h =
    ap (λ order. placed_at order analysis a a analyses (entries.with_analysis analysis analyses)) h.0 ∙ ap (◌∷◌ a) (analysis_placed analysis analyses h.1)

-- the form goes after one that is below it
after_placed : (letters : List ℕ) (analysis : Analysis) (form : Form) (forms : List Form) → compare_words form.letters letters ≡ Less
    → entries.with_form letters analysis (form ∷ forms) ≡ form ∷ entries.with_form letters analysis forms
after_placed letters analysis form forms less =
    ap (λ order. placed_at order (new_form letters analysis) (record { letters = form.letters; analyses = entries.with_analysis analysis form.analyses }) form forms (entries.with_form letters analysis forms)) less

last_placed : (phase : ℕ) (form : Form) (letters : List ℕ) (analysis : Analysis) (test : Bool) → bytes_eq form.letters letters ≡ test → IsLawfulForm form
    → AreBelow phase (map (entry_with phase form.letters) form.analyses) letters analysis
    → entries.with_form letters analysis (form ∷ []) ≡ cond test (record { letters = form.letters; analyses = form.analyses ++ analysis ∷ [] } ∷ []) (form ∷ new_form letters analysis ∷ [])
last_placed phase form letters analysis true e f below =
    let same = bytes_same form.letters letters e in
    let tie : compare_words form.letters letters ≡ Equal = subst (λ w. compare_words form.letters w ≡ Equal) same (tied_itself words_total form.letters) in
    let lower = analyses_below phase form.letters form.analyses analysis (subst (λ w. AreBelow phase (map (entry_with phase form.letters) form.analyses) w analysis) (sym same) below) in
    ap (λ order. placed_at order (new_form letters analysis) (record { letters = form.letters; analyses = entries.with_analysis analysis form.analyses }) form [] (entries.with_form letters analysis [])) tie
    ∙ ap (λ all. record { letters = form.letters; analyses = all } ∷ []) (analysis_placed analysis form.analyses lower)
last_placed phase form letters analysis false e f below =
    let less : compare_words form.letters letters ≡ Less = elim (form_below phase form form.analyses letters analysis refl f.entry.analyzed below) [
      | inl less ↦ less
      | inr same ↦ absurd (let yes = bytes_itself form.letters in let no : bytes_eq form.letters form.letters ≡ false = subst (λ w. bytes_eq form.letters w ≡ false) (sym same) e in cc)
    ] in
    after_placed letters analysis form [] less

phase_placed : (phase : ℕ) (forms : List Form) (letters : List ℕ) (analysis : Analysis) → IsLawfulPhase forms → AreBelow phase (phase_entries phase forms) letters analysis
    → entries.with_form letters analysis forms ≡ with_analysis forms letters analysis
phase_placed phase [] letters analysis p below = refl
phase_placed phase (form ∷ []) letters analysis p below =
    last_placed phase form letters analysis (bytes_eq form.letters letters) refl p.each.0
    (all_left (λ line. compare_entries line (entry_with phase letters analysis) ≡ Less) (map (entry_with phase form.letters) form.analyses) [] below)
phase_placed phase (first ∷ second ∷ forms) letters analysis p below =
    let rest = all_right (λ line. compare_entries line (entry_with phase letters analysis) ≡ Less) (map (entry_with phase first.letters) first.analyses) (phase_entries phase (second ∷ forms)) below in
    let second_lines = all_left (λ line. compare_entries line (entry_with phase letters analysis) ≡ Less) (map (entry_with phase second.letters) second.analyses) (phase_entries phase forms) rest in
    let step : compare_words first.letters second.letters ≡ Less = (sorted_head by_letters first (second ∷ forms) p.rising).0 in
    let less : compare_words first.letters letters ≡ Less = elim (form_below phase second second.analyses letters analysis refl p.each.1.0.entry.analyzed second_lines) [
      | inl less ↦ words_total.trans first.letters second.letters letters step less
      | inr same ↦ subst (λ w. compare_words first.letters w ≡ Less) same step
    ] in
    after_placed letters analysis first (second ∷ forms) less
    ∙ ap (◌∷◌ first) (phase_placed phase (second ∷ forms) letters analysis (record { each = p.each.1; rising = sorted_tail by_letters first (second ∷ forms) p.rising }) rest)

pub entry_placed : (start : ℕ) (phases : List (List Form)) (place : ℕ) (letters : List ℕ) (analysis : Analysis) → AreLawful phases
    → AreBelow (start + place) (entries_from start phases) letters analysis
    → slice_set phases place (entries.with_form letters analysis (slice_index_or phases place [])) ≡ with_form phases place letters analysis
entry_placed start [] place letters analysis p below = refl
entry_placed start (forms ∷ phases) zero letters analysis p below =
    let at : start + 0 ≡ start = omega arith in
    let here = subst (λ phase. AreBelow phase (entries_from start (forms ∷ phases)) letters analysis) at below in
    ap (λ first. first ∷ phases) (phase_placed start forms letters analysis p.0
    (all_left (λ line. compare_entries line (entry_with start letters analysis) ≡ Less) (phase_entries start forms) (entries_from (start + 1) phases) here))
entry_placed start (forms ∷ phases) (suc place) letters analysis p below =
    let at : start + suc place ≡ start + 1 + place = omega arith in
    let there = subst (λ phase. AreBelow phase (entries_from start (forms ∷ phases)) letters analysis) at below in
    ap (◌∷◌ forms) (entry_placed (start + 1) phases place letters analysis p.1
    (all_right (λ line. compare_entries line (entry_with (start + 1 + place) letters analysis) ≡ Less) (phase_entries start forms) (entries_from (start + 1) phases) there))

-- rising entries go to the end one after another
pub entries_placed : (count : ℕ) (phases : List (List Form)) (place : ℕ) (lines : List Entry) → EmptyAfter phases place → AreLawful phases → AllByRecursion (IsFormLine count) lines
    → AreWithin place (length phases) lines → IsStrictlySortedBy compare_entries (entries_from 0 phases ++ lines) → with_entries phases lines ≡ with_lines phases lines
entries_placed count phases place [] e p h w s = refl
entries_placed count phases place (line ∷ lines) e p h w s =
    let next = with_form phases line.phase line.letters line.analysis in
    let here = empty_later phases place line.phase e w.0.0 w.0.1 in
    let all = recursion_from_All (λ other. compare_entries other line ≡ Less) (entries_from 0 phases) (following_front lines_total (entries_from 0 phases) (line ∷ lines) line s (Contains-first line lines)) in
    let below : AreBelow (0 + line.phase) (entries_from 0 phases) line.letters line.analysis =
    subst (λ new. AllByRecursion (λ other. compare_entries other new ≡ Less) (entries_from 0 phases)) (sym (line_itself line)) all in
    let a = lawful_analysis count line h.0 in
    let lawful = lawful_with 0 phases line.phase line.letters line.analysis p (form_of_one line.letters line.analysis h.0.word h.0.some h.0.short a) a below in
    let joined : entries_from 0 next ≡ entries_from 0 phases ++ line ∷ [] = lines_with 0 phases line.phase line.letters line.analysis here ∙ at_zero (entries_from 0 phases) line in
    let sorted = subst (IsStrictlySortedBy compare_entries) (sym (append_assoc (entries_from 0 phases) (line ∷ []) lines) ∙ ap (λ front. front ++ lines) (sym joined)) s in
    let head = sorted_head compare_entries line lines (sorted_later lines_total (entries_from 0 phases) (line ∷ lines) s) in
    let within = subst (λ n. AreWithin line.phase n lines) (sym (length-with phases line.phase line.letters line.analysis)) (rest_within line place (length phases) lines head w.1) in
    ap (λ built. with_entries built lines) (entry_placed 0 phases line.phase line.letters line.analysis p below)
    ∙ entries_placed count next line.phase lines (empty_kept phases line.phase line.letters line.analysis here) lawful h.1 within sorted
