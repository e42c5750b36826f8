-- Items and keys of an answer are within the bounds of a bookmark: step by step, the form is one of the lexicon's, the lead is the
-- v of a rule or empty, and the place is within the line. How many steps there are is told by their ranks.
use Rattle.std.proofs.Common.{ℕ, zero, suc, ◌+◌, ◌*◌, ◌<◌, ◌≤◌, inl, inr, List, [], ◌∷◌, length, map, slice_index_or, All, Contains, sym, subst, arith}
use Rattle.std.proofs.lemmas.Bool.{cases_lt}
use Rattle.std.proofs.lemmas.List.{get_or_past, length-map}
use Rattle.std.proofs.lemmas.List.Elements.{All-cons, All-nil, All-map, All-contains}
use Rattle.text_definitions.specs.declared.limits.TheConstants.{MOST_LINE_LETTERS}
use Rattle.text_definitions.specs.Words.{IsWord}
use Rattle.text_definitions.specs.Lines.{Line, IsLine}
use Rattle.lexicon_definitions.specs.declared.limits.TheConstants.{MOST_RULE_LETTERS, MOST_FORM_LETTERS}
use Rattle.lexicon_definitions.specs.Rules.{Rule, rule_at, no_change}
use Rattle.lexicon_definitions.specs.Lexicons.{RuleSet, Form, forms_of, IsForm}
use Rattle.lexicon_definitions.specs.Limits.{IsShortRule}
use Rattle.segmentation_definitions.specs.Derivations.{Step, rule_after, AreForms, Covers}
use Rattle.segmentation_definitions.specs.Items.{Placed, placed, placed_from, taken_by, next_at, Item, item_of, items_of, Choice}
use Rattle.segmentation_definitions.specs.Answers.{IsAnswer}
use Rattle.segmentation_definitions.specs.Listings.{Key, key_of, keys_of, IsSummary}
use Rattle.segmentation_definitions.proofs.Coverings.{some_letters, forms_are_entries, phase_within, takes_first, in_place}
use Rattle.segmentation_definitions.proofs.RisingRanks.{length_placed, steps_bounded, keys_within}
use Rattle.bookmark_definitions.specs.Bookmarks.{last_phase, IsItemWithinBounds, IsKeyWithinBounds}
use Rattle.annotated_trie.specs.Searched.{SearchedLexicon, IsSearchedLexicon}

-- ---- rules and forms

no_change_is_short : IsShortRule no_change
no_change_is_short = record { u = omega arith; v = omega arith; w = omega arith }

-- no part of the rule with any number is too long
short_at : (rules : List Rule) (number : ℕ) → All IsShortRule rules → IsShortRule (rule_at rules number)
short_at rules zero short = no_change_is_short
short_at rules (suc number) short = elim (cases_lt number (length rules)) [
  | inl below ↦ short number no_change below
  | inr above ↦ subst IsShortRule (sym (get_or_past rules number no_change above)) no_change_is_short
]

-- the form is short
abbrev pub IsShort : Form → Type 0
IsShort form = length form.letters ≤ MOST_FORM_LETTERS

short_forms : (phases : List (List Form)) (phase : ℕ) → All (All IsShort) phases → All IsShort (slice_index_or phases phase [])
short_forms phases phase short = elim (cases_lt phase (length phases)) [
  | inl below ↦ short phase [] below
  | inr above ↦ subst (All IsShort) (sym (get_or_past phases phase [] above)) (All-nil IsShort)
]

-- the letters are those of a form: a word that is neither empty nor too long
record AreOfForm (letters : List ℕ) : Type 0 where
  word : IsWord letters
  not_empty : 0 < length letters
  short : length letters ≤ MOST_FORM_LETTERS

of_form : (searched : SearchedLexicon) (phase : ℕ) (form : List ℕ) → IsSearchedLexicon searched
    → IsForm searched.lexicon phase form → AreOfForm form
of_form searched phase form is of_phase =
    let entries = forms_are_entries searched.lexicon phase is.lexicon in
    let short = short_forms searched.lexicon.phases phase is.short in
    All-contains AreOfForm (map (λ (f : Form). f.letters) (forms_of searched.lexicon phase)) form
    (All-map AreOfForm (λ (f : Form). f.letters) (forms_of searched.lexicon phase)
    (λ k d lt. record { word = (entries k d lt).word; not_empty = some_letters (entries k d lt).not_empty; short = short k d lt })) of_phase

-- a phase with a form is no greater than the last one
phase_is : (searched : SearchedLexicon) (phase : ℕ) (form : List ℕ) → IsSearchedLexicon searched
    → IsForm searched.lexicon phase form → phase ≤ last_phase
phase_is searched phase form is of_phase =
    omega (arith, phase_within searched.lexicon phase form of_phase, is.lexicon.count, is.limits.phases)

-- ---- one step

-- the step with its place, where it begins at start with this lead
abbrev placed_at : RuleSet → ℕ → List ℕ → Step → Placed
placed_at rules start lead step =
    record { step = step; at = start; lead = length lead; taken = taken_by rules lead step }

item_at : (searched : SearchedLexicon) (start : ℕ) (lead : List ℕ) (step : Step) → IsSearchedLexicon searched
    → IsForm searched.lexicon step.phase step.form → length lead ≤ MOST_RULE_LETTERS → start ≤ MOST_LINE_LETTERS
    → IsItemWithinBounds (item_of (placed_at searched.lexicon.rules start lead step))
item_at searched start lead step is form short within =
    let letters = of_form searched step.phase step.form is form in
    record {
      at = within;
      lead = short;
      phase = phase_is searched step.phase step.form is form;
      word = letters.word;
      not_empty = letters.not_empty;
      short = letters.short;
    }

-- ---- all steps

items_from : (searched : SearchedLexicon) (start : ℕ) (lead : List ℕ) (steps : List Step) (word : List ℕ) → IsSearchedLexicon searched
    → AreForms searched.lexicon steps → Covers searched.lexicon.rules lead steps word []
    → length lead ≤ MOST_RULE_LETTERS → start + length word ≤ MOST_LINE_LETTERS
    → All IsItemWithinBounds (map item_of (placed_from searched.lexicon.rules start lead steps))
items_from searched start lead [] word is forms covers short within = All-nil IsItemWithinBounds
items_from searched start lead (step ∷ steps) word is forms covers short within =
    let rules = searched.lexicon.rules in
    let first = takes_first rules lead step word covers.0 covers.1 covers.2 covers.3 in
    All-cons IsItemWithinBounds (item_of (placed_at rules start lead step))
    (map item_of (placed_from rules (next_at rules start lead step) (rule_after rules step).v steps))
    (item_at searched start lead step is forms.0 short (omega arith))
    (items_from searched (next_at rules start lead step) (rule_after rules step).v steps covers.1 is forms.1 covers.4
    (short_at rules.rules step.rule is.limits.short_rules).v (omega (arith, first.rest)))

-- the phase is no greater than the last one, and what is taken is no longer than a form
abbrev IsShortKey : Key → Type 0
IsShortKey key = (key.phase ≤ last_phase) × (key.taken ≤ MOST_FORM_LETTERS)

keys_from : (searched : SearchedLexicon) (start : ℕ) (lead : List ℕ) (steps : List Step) (word : List ℕ) → IsSearchedLexicon searched
    → AreForms searched.lexicon steps → Covers searched.lexicon.rules lead steps word []
    → All IsShortKey (map key_of (placed_from searched.lexicon.rules start lead steps))
keys_from searched start lead [] word is forms covers = All-nil IsShortKey
keys_from searched start lead (step ∷ steps) word is forms covers =
    let rules = searched.lexicon.rules in
    let first = takes_first rules lead step word covers.0 covers.1 covers.2 covers.3 in
    let letters = of_form searched step.phase step.form is forms.0 in
    All-cons IsShortKey (key_of (placed_at rules start lead step))
    (map key_of (placed_from rules (next_at rules start lead step) (rule_after rules step).v steps))
    (phase_is searched step.phase step.form is forms.0, omega (arith, first.parts, letters.short))
    (keys_from searched (next_at rules start lead step) (rule_after rules step).v steps covers.1 is forms.1 covers.4)

-- ---- answers

pub items_of_answer_within : (searched : SearchedLexicon) (line : Line) (choices : List Choice) (steps : List Step)
    → IsSearchedLexicon searched → IsLine line → IsAnswer searched.lexicon line choices steps
    → All IsItemWithinBounds (items_of searched.lexicon.rules steps)
items_of_answer_within searched line choices steps is is_line answer =
    items_from searched 0 [] steps line.letters is answer.derives.forms answer.derives.covers (omega arith)
    (omega (arith, is_line.within_limit))

-- each item of a summary is within the bounds
pub item_of_summary_within : (searched : SearchedLexicon) (line : Line) (choices : List Choice) (items : List Item) (item : Item)
    → IsSearchedLexicon searched → IsLine line → IsSummary searched.lexicon line choices items → Contains items item
    → IsItemWithinBounds item
item_of_summary_within searched line choices items item is is_line summary has =
    let of_answer = (summary.members item).0 has in
    All-contains IsItemWithinBounds (items_of searched.lexicon.rules of_answer.0) item
    (items_of_answer_within searched line choices of_answer.0 is is_line of_answer.1) of_answer.2

-- each key of an answer is within the bounds
pub keys_of_answer_within : (searched : SearchedLexicon) (line : Line) (choices : List Choice) (steps : List Step)
    → IsSearchedLexicon searched → IsAnswer searched.lexicon line choices steps
    → All IsKeyWithinBounds (keys_of searched.lexicon.rules steps)
keys_of_answer_within searched line choices steps is answer = λ k d lt.
    let short = keys_from searched 0 [] steps line.letters is answer.derives.forms answer.derives.covers k d lt in
    let within = keys_within (in_place searched.lexicon line.letters steps is.lexicon answer.derives) k d lt in
    record { phase = short.0; taken = short.1; rule = omega (arith, within.2, is.limits.rules) }

-- an answer has at most twice as many keys as the line has letters
pub few_keys_of_answer : (searched : SearchedLexicon) (line : Line) (choices : List Choice) (steps : List Step)
    → IsSearchedLexicon searched → IsAnswer searched.lexicon line choices steps
    → length (keys_of searched.lexicon.rules steps) ≤ 2 * length line.letters
few_keys_of_answer searched line choices steps is answer =
    omega (
      arith,
      length-map (placed searched.lexicon.rules steps) key_of,
      length_placed searched.lexicon.rules 0 [] steps,
      steps_bounded searched.lexicon line.letters steps is.lexicon answer.derives,
    )
