-- The rank of a standing rises with each key that leads on, since a form and a rule's w are not empty, and is at most twice
-- the letters of the line, since letters or a lead are left; and no key both leads on and ends.
use Rattle.std.proofs.Common.{◌≡◌, ◌+◌, ◌*◌, ◌<◌, ◌≤◌, inl, inr, List, [], ◌∷◌, length, take, drop, refl, sym, ap, length-drop, arith}
use Rattle.std.proofs.lemmas.Bool.{cases_lt}
use Rattle.std.proofs.lemmas.List.{length-take-le}
use Rattle.text_definitions.specs.Lines.{Line}
use Rattle.lexicon_definitions.specs.Lexicons.{RuleSet, rule_of}
use Rattle.segmentation_definitions.specs.Derivations.{Step, rule_after}
use Rattle.segmentation_definitions.specs.Items.{Choice}
use Rattle.segmentation_definitions.specs.Listings.{Key}
use Rattle.segmentation_definitions.specs.Configurations.{entrance_after_step}
use Rattle.segmentation_definitions.proofs.Coverings.{form_not_empty, some_letters, length_of_parts, unchanged_at_zero, rule_at_number}
use Rattle.segmentation_definitions.proofs.RisingRanks.{after_lead_cases}
use Rattle.answer_paths.specs.Fronts.{supplied}
use Rattle.answer_paths.specs.Following.{step_at, MayStand}
use Rattle.answer_paths.proofs.FrontParts.{supplied_after}
use Rattle.annotated_trie.specs.Searched.{SearchedLexicon, IsSearchedLexicon}
use Rattle.search_frames.specs.Configurations.{NumberedConfiguration, rules_in, IsPossible, LeadsOn, Ends, after}
use Rattle.search_frames.specs.LetterTests.{MayLeadOn, MayEndLine}
use Rattle.search_frames.specs.Reached.{rank}
use Rattle.list_laws.proofs.Elements.{written_within}

-- a key that leads on may stand there, and so may one that ends
pub possible_if_leads : (searched : SearchedLexicon) (line : Line) (choices : List Choice) (here : NumberedConfiguration) (key : Key)
    → LeadsOn searched line choices here key → IsPossible searched line here key
possible_if_leads searched line choices here key leads =
    record { number = leads.stands.number; within = leads.stands.within; form = leads.stands.form }

pub possible_if_ends : (searched : SearchedLexicon) (line : Line) (choices : List Choice) (here : NumberedConfiguration) (key : Key)
    → Ends searched line choices here key → IsPossible searched line here key
possible_if_ends searched line choices here key ends =
    record { number = ends.stands.number; within = ends.stands.within; form = ends.stands.form }

-- what a key that leads on or ends may do as far as the letters tell
pub may_if_leads : (searched : SearchedLexicon) (line : Line) (choices : List Choice) (here : NumberedConfiguration) (key : Key)
    → LeadsOn searched line choices here key → MayLeadOn searched line choices here key
may_if_leads searched line choices here key leads = record { stands = leads.stands; inner = leads.inner; left = leads.left }

pub may_if_ends : (searched : SearchedLexicon) (line : Line) (choices : List Choice) (here : NumberedConfiguration) (key : Key)
    → Ends searched line choices here key → MayEndLine searched line choices here key
may_if_ends searched line choices here key ends =
    record { stands = ends.stands; final_rule = ends.final_rule; all = ends.all; blanks_before = ends.blanks_before }

-- no key both leads on and ends: without a rule, letters are left or not; and a rule has a v or not
pub not_both_ways : (searched : SearchedLexicon) (line : Line) (choices : List Choice) (here : NumberedConfiguration) (key : Key)
    → MayEndLine searched line choices here key → MayLeadOn searched line choices here key → ⊥
not_both_ways searched line choices here key ends leads = elim (cases_lt 0 key.rule) [
  | inl above ↦ leads.inner above (ends.final_rule above)
  | inr none ↦
      let zero : key.rule ≡ 0 = omega arith in
      let empty = unchanged_at_zero (rules_in searched) key.rule zero in
      omega (arith, ends.all, leads.left zero, empty.w_empty)
]

pub not_both : (searched : SearchedLexicon) (line : Line) (choices : List Choice) (here : NumberedConfiguration) (key : Key)
    → Ends searched line choices here key → LeadsOn searched line choices here key → ⊥
not_both searched line choices here key ends leads =
    not_both_ways searched line choices here key (may_if_ends searched line choices here key ends) (may_if_leads searched line choices here key leads)

-- the letters that the rule supplies after a step are its v
supplied_after_step : (rules : RuleSet) (step : Step) → length (supplied (entrance_after_step rules step)) ≡ length (rule_after rules step).v
supplied_after_step rules step = ap length (sym (supplied_after rules (step ∷ [])))

-- the form of a step has the letters that are supplied, those that are taken, and those of its u
form_letters : (searched : SearchedLexicon) (line : Line) (choices : List Choice) (here : NumberedConfiguration) (key : Key)
    → MayStand searched.lexicon line choices here.at here.entrance key
    → length (step_at (rules_in searched) line here.at here.entrance key).form
    ≡ length (supplied here.entrance) + key.taken + length (rule_of (rules_in searched) key.rule).u
form_letters searched line choices here key stands =
    let most = length-drop here.at line.letters in
    let within = stands.within in
    let taken : length (take key.taken (drop here.at line.letters)) ≡ key.taken =
    length-take-le key.taken (drop here.at line.letters) (omega arith) in
    let parts = length_of_parts (step_at (rules_in searched) line here.at here.entrance key).form (supplied here.entrance)
    (take key.taken (drop here.at line.letters)) (rule_of (rules_in searched) key.rule).u refl in
    omega (arith, taken, parts)

-- each key that leads on leads to where more is derived, or a rule supplied letters before and supplies no letters after
pub rank_rises : (searched : SearchedLexicon) (line : Line) (choices : List Choice) (here : NumberedConfiguration) (key : Key) → IsSearchedLexicon searched
    → LeadsOn searched line choices here key → rank here < rank (after searched line here key)
rank_rises searched line choices here key is leads =
    let rules = rules_in searched in
    let step = step_at rules line here.at here.entrance key in
    let letters = form_letters searched line choices here key leads.stands in
    let some = form_not_empty searched.lexicon key.phase step.form is.lexicon leads.stands.form in
    let before = after_lead_cases (length (supplied here.entrance)) in
    let next = after_lead_cases (length (supplied (entrance_after_step rules step))) in
    let last = supplied_after_step rules step in
    elim (cases_lt 0 key.rule) [
      | inl above ↦
          let w = some_letters (rule_at_number rules key.rule is.lexicon.rules (above, leads.stands.number)).strict.1 in
          omega (arith, before, next, w)
      | inr none ↦
          let zero : key.rule ≡ 0 = omega arith in
          let empty = unchanged_at_zero rules key.rule zero in
          omega (arith, letters, some, before, next, last, empty.u_empty, empty.v_empty, empty.w_empty)
    ]

-- a key that leads on leaves letters of the line, or letters that its rule supplies
pub rank_within : (searched : SearchedLexicon) (line : Line) (choices : List Choice) (here : NumberedConfiguration) (key : Key)
    → LeadsOn searched line choices here key → rank (after searched line here key) ≤ 2 * length line.letters
rank_within searched line choices here key leads =
    let rules = rules_in searched in
    let step = step_at rules line here.at here.entrance key in
    let next = after_lead_cases (length (supplied (entrance_after_step rules step))) in
    let last = supplied_after_step rules step in
    elim (cases_lt 0 key.rule) [
      | inl above ↦
          let v = some_letters (leads.inner above) in
          let w = written_within line.letters (rule_of rules key.rule).w (here.at + key.taken) leads.stands.within leads.stands.written in
          omega (arith, next, last, v, w)
      | inr none ↦
          let zero : key.rule ≡ 0 = omega arith in
          let empty = unchanged_at_zero rules key.rule zero in
          omega (arith, leads.left zero, next, empty.w_empty)
    ]
