-- Items and keys of an answer are within the bounds of a bookmark: step by step, the form is one of the lexicon's, the lead is the
-- v of a rule or empty, and the place is within the line. How many steps there are is told by their ranks.
use Rattle.std.proofs.Common.{ℕ, zero, suc, ◌+◌, ◌*◌, ◌<◌, ◌≤◌, inl, inr, List, [], ◌∷◌, length, map, slice_index_or, All, Contains, sym, subst, arith}
use Rattle.std.proofs.lemmas.Bool.{cases_lt}
use Rattle.std.proofs.lemmas.List.{get_or_past, length-map}
use Rattle.std.proofs.lemmas.List.Elements.{All-cons, All-nil, All-map, All-contains}
use Rattle.text_definitions.specs.declared.limits.TheConstants.{MOST_LINE_LETTERS}
use Rattle.text_definitions.specs.Words.{IsWord}
use Rattle.text_definitions.specs.Lines.{Line, IsLine}
use Rattle.lexicon_definitions.specs.declared.limits.TheConstants.{MOST_RULE_LETTERS, MOST_FORM_LETTERS}
use Rattle.lexicon_definitions.specs.Rules.{Rule, rule_at, no_change}
use Rattle.lexicon_definitions.specs.Lexicons.{Lexicon, RuleSet, Form, forms_of, IsForm, IsLexicon}
use Rattle.lexicon_definitions.specs.Limits.{IsShortRule, IsShortForm, IsWithinLimits}
use Rattle.segmentation_definitions.specs.Derivations.{Step, rule_after, AreForms, Covers}
use Rattle.segmentation_definitions.specs.Items.{Placed, placed, placed_from, taken_by, next_at, Item, item_of, items_of, Choice}
use Rattle.segmentation_definitions.specs.Answers.{IsAnswer}
use Rattle.segmentation_definitions.specs.Listings.{Key, key_of, keys_of, IsSummary}
use Rattle.segmentation_definitions.proofs.Coverings.{some_letters, forms_are_entries, phase_within, takes_first, in_place}
use Rattle.segmentation_definitions.proofs.RisingRanks.{length_placed, steps_bounded, keys_within}
use Rattle.bookmark_definitions.specs.Bookmarks.{last_phase, IsItemWithinBounds, IsKeyWithinBounds}

-- the lexicon is one, within the limits
pub record IsSound (lexicon : Lexicon) : Type 0 where
  pub itself : IsLexicon lexicon
  pub limits : IsWithinLimits lexicon

-- ---- rules and forms

no_change_is_short : IsShortRule no_change
no_change_is_short = record { u = omega arith; v = omega arith; w = omega arith }

-- no part of the rule with any number is too long
short_at : (rules : List Rule) (number : ℕ) → All IsShortRule rules → IsShortRule (rule_at rules number)
short_at rules zero short = no_change_is_short
short_at rules (suc number) short = elim (cases_lt number (length rules)) [
  | inl below ↦ short number no_change below
  | inr above ↦ subst IsShortRule (sym (get_or_past rules number no_change above)) no_change_is_short
]

short_forms : (phases : List (List Form)) (phase : ℕ) → All (λ (forms : List Form). All IsShortForm forms) phases
    → All IsShortForm (slice_index_or phases phase [])
short_forms phases phase short = elim (cases_lt phase (length phases)) [
  | inl below ↦ short phase [] below
  | inr above ↦ subst (All IsShortForm) (sym (get_or_past phases phase [] above)) (All-nil IsShortForm)
]

-- the letters are those of a form: a word that is neither empty nor too long
record AreOfForm (letters : List ℕ) : Type 0 where
  word : IsWord letters
  not_empty : 0 < length letters
  short : length letters ≤ MOST_FORM_LETTERS

of_form : (lexicon : Lexicon) (phase : ℕ) (form : List ℕ) → IsSound lexicon
    → IsForm lexicon phase form → AreOfForm form
of_form lexicon phase form is of_phase =
    let entries = forms_are_entries lexicon phase is.itself in
    let short = short_forms lexicon.phases phase is.limits.short_forms in
    All-contains AreOfForm (map (λ (f : Form). f.letters) (forms_of lexicon phase)) form
    (All-map AreOfForm (λ (f : Form). f.letters) (forms_of lexicon phase)
    (λ k d lt. record { word = (entries k d lt).word; not_empty = some_letters (entries k d lt).not_empty; short = (short k d lt).letters })) of_phase

-- a phase with a form is no greater than the last one
phase_is : (lexicon : Lexicon) (phase : ℕ) (form : List ℕ) → IsSound lexicon
    → IsForm lexicon phase form → phase ≤ last_phase
phase_is lexicon phase form is of_phase =
    omega (arith, phase_within lexicon phase form of_phase, is.itself.count, is.limits.rule_set.phases)

-- ---- one step

-- the step with its place, where it begins at start with this lead
abbrev placed_at : RuleSet → ℕ → List ℕ → Step → Placed
placed_at rules start lead step =
    record { step = step; at = start; lead = length lead; taken = taken_by rules lead step }

-- the item is within the bounds, and its phase is one of the lexicon's
pub record IsItemOver (lexicon : Lexicon) (item : Item) : Type 0 where
  pub within : IsItemWithinBounds item
  pub phase : item.phase < length lexicon.phases

item_at : (lexicon : Lexicon) (start : ℕ) (lead : List ℕ) (step : Step) → IsSound lexicon
    → IsForm lexicon step.phase step.form → length lead ≤ MOST_RULE_LETTERS → start ≤ MOST_LINE_LETTERS
    → IsItemOver lexicon (item_of (placed_at lexicon.rules start lead step))
item_at lexicon start lead step is form short within =
    let letters = of_form lexicon step.phase step.form is form in
    record {
      within = record {
        at = within;
        lead = short;
        phase = phase_is lexicon step.phase step.form is form;
        word = letters.word;
        not_empty = letters.not_empty;
        short = letters.short;
      };
      phase = phase_within lexicon step.phase step.form form;
    }

-- ---- all steps

items_from : (lexicon : Lexicon) (start : ℕ) (lead : List ℕ) (steps : List Step) (word : List ℕ) → IsSound lexicon
    → AreForms lexicon steps → Covers lexicon.rules lead steps word []
    → length lead ≤ MOST_RULE_LETTERS → start + length word ≤ MOST_LINE_LETTERS
    → All (IsItemOver lexicon) (map item_of (placed_from lexicon.rules start lead steps))
items_from lexicon start lead [] word is forms covers short within = All-nil (IsItemOver lexicon)
items_from lexicon start lead (step ∷ steps) word is forms covers short within =
    let rules = lexicon.rules in
    let first = takes_first rules lead step word covers.0 covers.1 covers.2 covers.3 in
    All-cons (IsItemOver lexicon) (item_of (placed_at rules start lead step))
    (map item_of (placed_from rules (next_at rules start lead step) (rule_after rules step).v steps))
    (item_at lexicon start lead step is forms.0 short (omega arith))
    (items_from lexicon (next_at rules start lead step) (rule_after rules step).v steps covers.1 is forms.1 covers.4
    (short_at rules.rules step.rule is.limits.rule_set.short_rules).v (omega (arith, first.rest)))

-- the phase is no greater than the last one, and what is taken is no longer than a form
abbrev IsShortKey : Key → Type 0
IsShortKey key = (key.phase ≤ last_phase) × (key.taken ≤ MOST_FORM_LETTERS)

keys_from : (lexicon : Lexicon) (start : ℕ) (lead : List ℕ) (steps : List Step) (word : List ℕ) → IsSound lexicon
    → AreForms lexicon steps → Covers lexicon.rules lead steps word []
    → All IsShortKey (map key_of (placed_from lexicon.rules start lead steps))
keys_from lexicon start lead [] word is forms covers = All-nil IsShortKey
keys_from lexicon start lead (step ∷ steps) word is forms covers =
    let rules = lexicon.rules in
    let first = takes_first rules lead step word covers.0 covers.1 covers.2 covers.3 in
    let letters = of_form lexicon step.phase step.form is forms.0 in
    All-cons IsShortKey (key_of (placed_at rules start lead step))
    (map key_of (placed_from rules (next_at rules start lead step) (rule_after rules step).v steps))
    (phase_is lexicon step.phase step.form is forms.0, omega (arith, first.parts, letters.short))
    (keys_from lexicon (next_at rules start lead step) (rule_after rules step).v steps covers.1 is forms.1 covers.4)

-- ---- answers

pub items_of_answer_within : (lexicon : Lexicon) (line : Line) (choices : List Choice) (steps : List Step)
    → IsSound lexicon → IsLine line → IsAnswer lexicon line choices steps
    → All (IsItemOver lexicon) (items_of lexicon.rules steps)
items_of_answer_within lexicon line choices steps is is_line answer =
    items_from lexicon 0 [] steps line.letters is answer.derives.forms answer.derives.covers (omega arith)
    (omega (arith, is_line.within_limit))

-- each item of a summary is within the bounds
pub item_of_summary_within : (lexicon : Lexicon) (line : Line) (choices : List Choice) (items : List Item) (item : Item)
    → IsSound lexicon → IsLine line → IsSummary lexicon line choices items → Contains items item
    → IsItemOver lexicon item
item_of_summary_within lexicon line choices items item is is_line summary has =
    let of_answer = (summary.members item).0 has in
    All-contains (IsItemOver lexicon) (items_of lexicon.rules of_answer.0) item
    (items_of_answer_within lexicon line choices of_answer.0 is is_line of_answer.1) of_answer.2

-- each key of an answer is within the bounds
pub keys_of_answer_within : (lexicon : Lexicon) (line : Line) (choices : List Choice) (steps : List Step)
    → IsSound lexicon → IsAnswer lexicon line choices steps
    → All IsKeyWithinBounds (keys_of lexicon.rules steps)
keys_of_answer_within lexicon line choices steps is answer = λ k d lt.
    let short = keys_from lexicon 0 [] steps line.letters is answer.derives.forms answer.derives.covers k d lt in
    let within = keys_within (in_place lexicon line.letters steps is.itself answer.derives) k d lt in
    record { phase = short.0; taken = short.1; rule = omega (arith, within.2, is.limits.rule_set.rules) }

-- an answer has at most twice as many keys as the line has letters
pub few_keys_of_answer : (lexicon : Lexicon) (line : Line) (choices : List Choice) (steps : List Step)
    → IsSound lexicon → IsAnswer lexicon line choices steps
    → length (keys_of lexicon.rules steps) ≤ 2 * length line.letters
few_keys_of_answer lexicon line choices steps is answer =
    omega (
      arith,
      length-map (placed lexicon.rules steps) key_of,
      length_placed lexicon.rules 0 [] steps,
      steps_bounded lexicon line.letters steps is.itself answer.derives,
    )
