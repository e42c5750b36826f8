-- What covering says of lengths: each equation of `Covers` is taken to lengths, by induction over the steps.
use Rattle.std.proofs.Common.{◌≡◌, ◌≢◌, ℕ, zero, suc, ◌+◌, ◌<◌, ◌≤◌, ◌⊎◌, inl, inr, List, [], ◌∷◌, ◌++◌, length, map, All, Contains, refl, ap, sym, subst, arith, length-append}
use Rattle.std.proofs.lemmas.Bool.{cases_lt}
use Rattle.std.proofs.lemmas.List.{get_or_past}
use Rattle.std.proofs.lemmas.List.Elements.{All-map, All-contains, All-nil}
use Rattle.lexicon_definitions.specs.Rules.{Rule, IsRule, IsFinal, no_change}
use Rattle.lexicon_definitions.specs.Lexicons.{Lexicon, RuleSet, Form, rule_of, forms_of, IsForm, IsRuleSet, IsFormEntry, IsLexicon}
use Rattle.segmentation_definitions.specs.Derivations.{Step, rule_after, IsRuleNumber, Meets, AreForms, AreJoined, EndsWell, Covers, Derives}
use Rattle.segmentation_definitions.specs.Items.{Placed, placed, placed_from, taken_by, next_at, covered_from}
use Rattle.lexicon_definitions.proofs.FormsPlaced.{some_length}

pub some_letters : {xs : List ℕ} → xs ≢ [] → 0 < length xs
some_letters {xs = xs} h = some_length xs h

-- a word that is made of three parts
pub length_of_parts : (whole first second third : List ℕ) → whole ≡ first ++ second ++ third → length whole ≡ length first + length second + length third
length_of_parts whole first second third e = omega (arith, ap length e, length-append (first ++ second) third, length-append first second)

-- ---- rules by number

-- the number 0: u, v and w have no letters
pub record IsUnchanged (rule : Rule) : Type 0 where
  pub u_empty : length rule.u ≡ 0
  pub v_empty : length rule.v ≡ 0
  pub w_empty : length rule.w ≡ 0

pub unchanged_at_zero : (rules : RuleSet) (number : ℕ) → number ≡ 0 → IsUnchanged (rule_of rules number)
unchanged_at_zero rules zero e = record { u_empty = refl; v_empty = refl; w_empty = refl }
unchanged_at_zero rules (suc number) e = absurd (omega arith)

pub rule_at_number : (rules : RuleSet) (number : ℕ) → IsRuleSet rules → IsRuleNumber rules number → IsRule (length rules.names) (rule_of rules number)
rule_at_number rules zero set within = absurd (omega arith)
rule_at_number rules (suc number) set within = set.each number no_change within.1

-- ---- forms

pub forms_are_entries : (lexicon : Lexicon) (phase : ℕ) → IsLexicon lexicon → All IsFormEntry (forms_of lexicon phase)
forms_are_entries lexicon phase is = elim (cases_lt phase (length lexicon.phases)) [
  | inl below ↦ (is.phases phase [] below).each
  | inr above ↦ subst (All IsFormEntry) (sym (get_or_past lexicon.phases phase [] above)) (All-nil IsFormEntry)
]

-- a form has a letter
pub form_not_empty : (lexicon : Lexicon) (phase : ℕ) (form : List ℕ) → IsLexicon lexicon → IsForm lexicon phase form → 0 < length form
form_not_empty lexicon phase form is of_phase =
    All-contains (λ word. 0 < length word) (map (λ (f : Form). f.letters) (forms_of lexicon phase)) form
    (All-map (λ word. 0 < length word) (λ (f : Form). f.letters) (forms_of lexicon phase)
    (λ k d lt. some_letters (forms_are_entries lexicon phase is k d lt).not_empty)) of_phase

none_in_nothing : (forms : List Form) (form : List ℕ) → forms ≡ [] → Contains (map (λ (f : Form). f.letters) forms) form → ⊥
none_in_nothing [] form e h = absurd (omega (arith, h.1))
none_in_nothing (f ∷ forms) form e h = cc

-- a phase with a form is one of the lexicon's
pub phase_within : (lexicon : Lexicon) (phase : ℕ) (form : List ℕ) → IsForm lexicon phase form → phase < length lexicon.phases
phase_within lexicon phase form of_phase = elim (cases_lt phase (length lexicon.phases)) [
  | inl below ↦ below
  | inr above ↦ absurd (none_in_nothing (forms_of lexicon phase) form (get_or_past lexicon.phases phase [] above) of_phase)
]

-- ---- one step

-- what the first step of a covering takes, and what is after it
pub record TakesFirst (rules : RuleSet) (lead : List ℕ) (step : Step) (word following : List ℕ) : Type 0 where
  pub parts : length step.form ≡ length lead + taken_by rules lead step + length (rule_after rules step).u
  pub rest : length word ≡ taken_by rules lead step + length (rule_after rules step).w + length following

pub takes_first : (rules : RuleSet) (lead : List ℕ) (step : Step) (word taken following : List ℕ)
    → step.form ≡ lead ++ taken ++ (rule_after rules step).u
    → word ≡ taken ++ (rule_after rules step).w ++ following → TakesFirst rules lead step word following
takes_first rules lead step word taken following e f =
    let form = length_of_parts step.form lead taken (rule_after rules step).u e in
    let whole = length_of_parts word taken (rule_after rules step).w following f in
    record { parts = omega arith; rest = omega arith }

-- the letters that the taken ones are, as many as `taken_by` says
pub taken_length : (rules : RuleSet) (lead : List ℕ) (step : Step) (taken : List ℕ)
    → step.form ≡ lead ++ taken ++ (rule_after rules step).u → taken_by rules lead step ≡ length taken
taken_length rules lead step taken e =
    let form = length_of_parts step.form lead taken (rule_after rules step).u e in omega arith

-- what is covered and the rest are together the whole
pub covered_length : (rules : RuleSet) (start : ℕ) (lead : List ℕ) (steps : List Step) (word rest : List ℕ)
    → Covers rules lead steps word rest → covered_from rules start lead steps + length rest ≡ start + length word
covered_length rules start lead [] word rest covers = omega (arith, ap length covers)
covered_length rules start lead (step ∷ steps) word rest covers =
    let first = takes_first rules lead step word covers.0 covers.1 covers.2 covers.3 in
    omega (arith, covered_length rules (next_at rules start lead step) (rule_after rules step).v steps covers.1 rest covers.4)

-- ---- a step in its place

-- the rule after a step: no rule, or one of the rules with u and w
pub data RuleAfter (rules : RuleSet) (step : Step) : Type 0 where
  Unchanged : step.rule ≡ 0 → IsUnchanged (rule_after rules step) → RuleAfter rules step
  Changed : IsRuleNumber rules step.rule → 0 < length (rule_after rules step).u → 0 < length (rule_after rules step).w → RuleAfter rules step

pub rule_after_of_number : (rules : RuleSet) (step : Step) → IsRuleSet rules → (step.rule ≡ 0) ⊎ IsRuleNumber rules step.rule → RuleAfter rules step
rule_after_of_number rules step set h = elim h [
  | inl none ↦ Unchanged none (unchanged_at_zero rules step.rule none)
  | inr number ↦ let strict = (rule_at_number rules step.rule set number).strict in
      Changed number (some_letters strict.0) (some_letters strict.1)
]

-- a step of a derivation of a word with this many letters, in its place
pub record StandsIn (lexicon : Lexicon) (letters : ℕ) (p : Placed) : Type 0 where
  pub phase : p.step.phase < length lexicon.phases
  pub not_empty : 0 < p.lead + p.taken + length (rule_after lexicon.rules p.step).u
  pub within : p.at + p.taken + length (rule_after lexicon.rules p.step).w ≤ letters
  pub begun : (p.lead ≡ 0) ⊎ (0 < p.at)
  pub following : RuleAfter lexicon.rules p.step

-- two neighbours in a derivation
pub record StandsBefore (rules : RuleSet) (p q : Placed) : Type 0 where
  pub at : q.at ≡ p.at + p.taken + length (rule_after rules p.step).w
  pub lead : q.lead ≡ length (rule_after rules p.step).v
  pub rule : (p.step.rule ≡ 0) ⊎ (IsRuleNumber rules p.step.rule × (0 < length (rule_after rules p.step).v))

-- the last step of a derivation
pub record StandsLast (rules : RuleSet) (letters : ℕ) (p : Placed) : Type 0 where
  pub all : p.at + p.taken + length (rule_after rules p.step).w ≡ letters
  pub rule : (p.step.rule ≡ 0) ⊎ (IsRuleNumber rules p.step.rule × IsFinal (rule_after rules p.step))

-- the steps of a derivation of a word with this many letters, or the last ones of them, in their places
pub data AreInPlace (lexicon : Lexicon) (letters : ℕ) : List Placed → Type 0 where
  LastStep : {p : Placed} → StandsIn lexicon letters p → StandsLast lexicon.rules letters p → AreInPlace lexicon letters (p ∷ [])
  EarlierStep : {p q : Placed} {ps : List Placed} → StandsIn lexicon letters p → StandsBefore lexicon.rules p q
      → AreInPlace lexicon letters (q ∷ ps) → AreInPlace lexicon letters (p ∷ q ∷ ps)

-- how the first of the steps stands in its place, from its equations
first_stands : (lexicon : Lexicon) (letters start : ℕ) (lead : List ℕ) (step : Step) (word following : List ℕ) → IsLexicon lexicon
    → IsForm lexicon step.phase step.form → (step.rule ≡ 0) ⊎ IsRuleNumber lexicon.rules step.rule
    → TakesFirst lexicon.rules lead step word following → start + length word ≡ letters → (length lead ≡ 0) ⊎ (0 < start)
    → StandsIn lexicon letters (record { step = step; at = start; lead = length lead; taken = taken_by lexicon.rules lead step })
first_stands lexicon letters start lead step word following is form number first whole begun =
    let some = form_not_empty lexicon step.phase step.form is form in
    record {
      phase = phase_within lexicon step.phase step.form form;
      not_empty = omega (arith, first.parts);
      within = omega (arith, first.rest);
      begun = begun;
      following = rule_after_of_number lexicon.rules step is.rules number;
    }

number_if_met : (rules : RuleSet) (step next : Step) → Meets rules step next → (step.rule ≡ 0) ⊎ IsRuleNumber rules step.rule
number_if_met rules step next meets = elim meets [ inl plain ↦ inl plain.0 | inr inner ↦ inr inner.0.0 ]

number_if_last : (rules : RuleSet) (step : Step) → EndsWell rules (step ∷ []) → (step.rule ≡ 0) ⊎ IsRuleNumber rules step.rule
number_if_last rules step ends = elim ends [ inl none ↦ inl none | inr final ↦ inr final.0 ]

begun_after : (rules : RuleSet) (step : Step) (start taken : ℕ) → RuleAfter rules step
    → (length (rule_after rules step).v ≡ 0) ⊎ (0 < start + taken + length (rule_after rules step).w)
begun_after rules step start taken (Unchanged none empty) = inl empty.v_empty
begun_after rules step start taken (Changed number u w) = inr (omega arith)

-- the steps that cover the end of a word stand in their places
pub in_place_from : (lexicon : Lexicon) (letters start : ℕ) (lead : List ℕ) (steps : List Step) (word : List ℕ) → IsLexicon lexicon
    → AreForms lexicon steps → AreJoined lexicon.rules steps → EndsWell lexicon.rules steps → Covers lexicon.rules lead steps word []
    → start + length word ≡ letters → (length lead ≡ 0) ⊎ (0 < start)
    → AreInPlace lexicon letters (placed_from lexicon.rules start lead steps)
in_place_from lexicon letters start lead [] word is forms joined ends covers whole begun = elim ends [ ]
in_place_from lexicon letters start lead (step ∷ []) word is forms joined ends covers whole begun =
    let first = takes_first lexicon.rules lead step word covers.0 covers.1 covers.2 covers.3 in
    let none = ap length covers.4 in
    LastStep (first_stands lexicon letters start lead step word covers.1 is forms.0 (number_if_last lexicon.rules step ends) first whole begun)
    (record {
      all = omega (arith, first.rest, none);
      rule = elim ends [ inl none ↦ inl none | inr final ↦ inr (final.0, final.1) ];
    })
in_place_from lexicon letters start lead (step ∷ next ∷ steps) word is forms joined ends covers whole begun =
    let first = takes_first lexicon.rules lead step word covers.0 covers.1 covers.2 covers.3 in
    let number = number_if_met lexicon.rules step next joined.0 in
    EarlierStep (first_stands lexicon letters start lead step word covers.1 is forms.0 number first whole begun)
    (record {
      at = refl;
      lead = refl;
      rule = elim joined.0 [ inl plain ↦ inl plain.0 | inr inner ↦ inr (inner.0.0, some_letters inner.0.1) ];
    })
    (in_place_from lexicon letters (next_at lexicon.rules start lead step) (rule_after lexicon.rules step).v (next ∷ steps) covers.1 is
    forms.1 joined.1 ends covers.4 (omega (arith, first.rest))
    (begun_after lexicon.rules step start (taken_by lexicon.rules lead step) (rule_after_of_number lexicon.rules step is.rules number)))

-- the steps of a derivation stand in their places
pub in_place : (lexicon : Lexicon) (word : List ℕ) (steps : List Step) → IsLexicon lexicon → Derives lexicon steps word
    → AreInPlace lexicon (length word) (placed lexicon.rules steps)
in_place lexicon word steps is derives =
    in_place_from lexicon (length word) 0 [] steps word is derives.forms derives.joined derives.ends derives.covers (omega arith) (inl refl)
