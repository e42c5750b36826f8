-- For each rule one that does the same: at first itself, and one that is put in place of another does the same. And of the rules
-- that have the round, one that was looked at does the same, also after one more.
use Rattle.std.proofs.Common.{◌≡◌, ◌≢◌, ◌⊎◌, ℕ, ◌<◌, ◌≤◌, inl, inr, List, [], ◌∷◌, ◌++◌, length, take, get_or, set, Contains, sym, ap, ◌∙◌, arith, length-set}
use Rattle.std.proofs.lemmas.Bool.{cases_lt}
use Rattle.std.proofs.lemmas.List.{get_or-set_same, get_or-set_other}
use Rattle.std.proofs.lemmas.List.Elements.{Contains-push, Contains-append_left}
use Rattle.lexicon_definitions.specs.Lexicons.{RuleSet, rule_of}
use Rattle.summary_chart.specs.declared.same_effect.Effects.{Effects}
use Rattle.summary_chart.specs.Effects.{DoSame, HaveLooked, HaveSameEffect}
use Rattle.summary_chart.specs.Summaries.{AreRuleNumbers}

-- a number is another or not
same_or_other : (one other : ℕ) → (one ≡ other) ⊎ (one ≢ other)
same_or_other one other = elim (cases_lt one other) [
  | inl less ↦ inr (omega (arith, less))
  | inr from ↦ elim (cases_lt other one) [
    | inl more ↦ inr (omega (arith, more))
    | inr to ↦ inl (omega (arith, from, to))
  ]
]

module _ (rules : RuleSet) where
  -- a rule does what it does, and so it goes from rule to rule
  pub does_itself : (one other : ℕ) → one ≡ other → DoSame rules one other
  does_itself one other same = record {
    begins = ap (λ (r : ℕ). take 1 (rule_of rules r).u) same;
    before = ap (λ (r : ℕ). (rule_of rules r).before) same;
    w = ap (λ (r : ℕ). (rule_of rules r).w) same;
    v = ap (λ (r : ℕ). (rule_of rules r).v) same;
    after = ap (λ (r : ℕ). (rule_of rules r).after) same;
  }

  pub does_back : (one other : ℕ) → DoSame rules one other → DoSame rules other one
  does_back one other does = record { begins = sym does.begins; before = sym does.before; w = sym does.w; v = sym does.v; after = sym does.after }

  pub does_on : (one two three : ℕ) → DoSame rules one two → DoSame rules two three → DoSame rules one three
  does_on one two three first second = record {
    begins = first.begins ∙ second.begins;
    before = first.before ∙ second.before;
    w = first.w ∙ second.w;
    v = first.v ∙ second.v;
    after = first.after ∙ second.after;
  }

  -- each number stands in its place
  pub each_does : (numbers : List ℕ) → AreRuleNumbers rules numbers → HaveSameEffect rules numbers
  each_does numbers are = record {
    size = are.size;
    within = λ rule few. (let is = are.each rule few in omega (arith, is, few));
    each = λ rule few. does_itself (get_or numbers rule 0) rule (are.each rule few);
  }

  -- a rule takes the place of one that does the same
  pub one_stands : (same : List ℕ) (rule other : ℕ) → HaveSameEffect rules same → rule ≤ length rules.rules → other ≤ length rules.rules
      → DoSame rules other rule → HaveSameEffect rules (set same rule other)
  one_stands same rule other are low there does = record {
    size = length-set same rule other ∙ are.size;
    within = λ r few. elim (same_or_other r rule) [
      | inl here ↦ (let put = read_put r here in omega (arith, put, there))
      | inr apart ↦ (let put = get_or-set_other same rule r other 0 apart in let was = are.within r few in omega (arith, put, was))
    ];
    each = λ r few. elim (same_or_other r rule) [
      | inl here ↦ does_on (get_or (set same rule other) r 0) other r (does_itself (get_or (set same rule other) r 0) other (read_put r here))
          (does_on other rule r does (does_itself rule r (sym here)))
      | inr apart ↦ does_on (get_or (set same rule other) r 0) (get_or same r 0) r
          (does_itself (get_or (set same rule other) r 0) (get_or same r 0) (get_or-set_other same rule r other 0 apart)) (are.each r few)
    ];
  }
    where
      read_put : (r : ℕ) → r ≡ rule → get_or (set same rule other) r 0 ≡ other
      read_put r here =
          let size = are.size in
          ap (λ (n : ℕ). get_or (set same rule other) n 0) here ∙ get_or-set_same same rule other 0 (omega (arith, low, size))

  -- and of those that have the round nothing is lost by one more
  pub still_looked : (looked : List ℕ) (rule : ℕ) (effects : Effects) → HaveLooked rules looked effects → HaveLooked rules (looked ++ rule ∷ []) effects
  still_looked looked rule effects have r within now =
      let one = have r within now in
      (one.0, Contains-append_left looked (rule ∷ []) one.0 one.1, one.2)

  -- where the rule that stands for it has the round, one that was looked at does the same
  pub was_looked : (looked : List ℕ) (rule same : ℕ) (effects : Effects) → DoSame rules same rule → same < length effects.seen.items
      → get_or effects.seen.items same 0 ≡ effects.round → HaveLooked rules looked effects → (one : ℕ) × Contains looked one × DoSame rules one rule
  was_looked looked rule same effects does low now have =
      let one = have same low now in
      (one.0, one.1, does_on one.0 same rule one.2 does)

  -- the rule that stands for it has the round now
  module _ (effects : Effects) (rule same : ℕ) (low : same < length effects.seen.items) where
    reads : (r : ℕ) → (r ≡ same) ⊎ (get_or (set effects.seen.items same effects.round) r 0 ≡ get_or effects.seen.items r 0)
    reads r = elim (same_or_other r same) [
      | inl here ↦ inl here
      | inr apart ↦ inr (get_or-set_other effects.seen.items same r effects.round 0 apart)
    ]

    pub rounds_put : ((r : ℕ) → get_or effects.seen.items r 0 ≤ effects.round) → (r : ℕ)
        → get_or (set effects.seen.items same effects.round) r 0 ≤ effects.round
    rounds_put rounds r = elim (reads r) [
      | inl here ↦
          let put = ap (λ (n : ℕ). get_or (set effects.seen.items same effects.round) n 0) here ∙ get_or-set_same effects.seen.items same effects.round 0 low in
          omega (arith, put)
      | inr was ↦ (let bound = rounds r in omega (arith, was, bound))
    ]

    pub looked_put : (looked : List ℕ) → DoSame rules same rule → HaveLooked rules looked effects → (r : ℕ)
        → r < length (set effects.seen.items same effects.round) → get_or (set effects.seen.items same effects.round) r 0 ≡ effects.round
        → (one : ℕ) × Contains (looked ++ rule ∷ []) one × DoSame rules one r
    looked_put looked does have r within now = elim (reads r) [
      | inl here ↦ (rule, Contains-push looked rule, does_on rule same r (does_back same rule does) (does_itself same r (sym here)))
      | inr was ↦
          let size = length-set effects.seen.items same effects.round in
          let one = have r (omega (arith, within, size)) (sym was ∙ now) in
          (one.0, Contains-append_left looked (rule ∷ []) one.0 one.1, one.2)
    ]
