-- Rule by rule: where none so far begins a path, the next with which one may begin is the first.
use Rattle.std.proofs.Common.{◌≡◌, ℕ, ◌<◌, ◌≤◌, ◌↔◌, List, length, get_or, refl, sym, ◌∙◌, ap, subst, arith}
use Rattle.std.specs.Prelude.{Contains}
use Rattle.std.specs.Ordering.{nat_cmp}
use Rattle.std.specs.List.Sorted.{IsStrictlySortedBy}
use Rattle.derivation.specs.Steps.{key_meant}
use Rattle.annotated_trie.specs.Choices.{AnnotatedTrie, choices_of, choices_with}
use Rattle.search_frames.specs.Frames.{numbered_of}
use Rattle.search_frames.specs.FirstKeys.{HasNoneOf}
use Rattle.search_frames.proofs.PossibleKeys.{reached_there}
use Rattle.search_frames.proofs.GroupedRules.{group_length, group_rises}
use Rattle.search_frames.proofs.TriedRules.{IsTriedRule, none_tried_at_first, one_more_tried, rule_chosen, none_of_group, first_of_group}
use Rattle.search_frames.proofs.turning.turn_in_group.Given as given
use Rattle.search_frames.proofs.turning.turn_in_group.Goals as goal
use Rattle.search_frames.proofs.turning.turn_in_group.Goals.{After-rules_from-rules}

-- what is left of the group has just its rules from the first one on
left_over : (g : given.Over) (c : After-rules_from-rules g) → (rule : ℕ)
    → Contains c.rules_from-rules.result.now rule ↔ (Contains (choices_with c.args.space.now.lexicon.now.tries c.args.node c.args.letter) rule × (c.args.from.rule ≤ rule))
left_over g c rule =
    let group = c.choices_with-group.ensures.value ∙ ap (λ (t : AnnotatedTrie). choices_with t c.args.node c.args.letter) c.tries.ensures.value in
    subst (λ (all : List ℕ). Contains c.rules_from-rules.result.now rule ↔ (Contains all rule × (c.args.from.rule ≤ rule))) group (c.rules_from-rules.ensures.left rule)

-- no more are left than the node has choices
few_left : (g : given.Over) (c : After-rules_from-rules g) → (most : ℕ) → ((node : ℕ) → node < length c.args.space.now.lexicon.now.tries.trie.rows
    → length (choices_of c.args.space.now.lexicon.now.tries node) ≤ most) → length c.rules_from-rules.result.now ≤ most
few_left g c most few =
    let there = reached_there c.args.space.now.lexicon.now c.requires.searched c.args.from.phase c.args.node _ c.requires.phase c.requires.node in
    let count = few c.args.node there in
    let group = ap length (c.choices_with-group.ensures.value ∙ ap (λ (t : AnnotatedTrie). choices_with t c.args.node c.args.letter) c.tries.ensures.value) in
    let fewer = group_length c.args.space.now.lexicon.now c.args.node c.args.letter in
    omega (arith, count, group, fewer, c.rules_from-rules.ensures.few)

pub choices_with-group-requires : goal.choices_with-group-requires
choices_with-group-requires g c =
    let there = reached_there c.args.space.now.lexicon.now c.requires.searched c.args.from.phase c.args.node _ c.requires.phase c.requires.node in
    let rows = ap (λ (t : AnnotatedTrie). length t.trie.rows) c.tries.ensures.value in
    omega (arith, there, rows)

pub rules_from-rules-requires : goal.rules_from-rules-requires
rules_from-rules-requires g c =
    let there = reached_there c.args.space.now.lexicon.now c.requires.searched c.args.from.phase c.args.node _ c.requires.phase c.requires.node in
    let group = c.choices_with-group.ensures.value ∙ ap (λ (t : AnnotatedTrie). choices_with t c.args.node c.args.letter) c.tries.ensures.value in
    subst (IsStrictlySortedBy nat_cmp) (sym group) (group_rises c.args.space.now.lexicon.now c.requires.searched c.args.node c.args.letter there)

pub loop-rule-init : goal.loop-rule-init
loop-rule-init g c = record {
  none = none_tried_at_first c.args.space.now.lexicon.now c.args.space.now.line.now c.args.space.now.choices.now (numbered_of c.args.space.now.lexicon.now c.args.place.now) (key_meant c.args.from) c.rules_from-rules.result.now;
  spent = omega (arith, c.choices_with-group.ensures.steps);
}

pub turn_by_rule-requires-clause-rule : goal.turn_by_rule-requires-clause-rule
turn_by_rule-requires-clause-rule g c =
    let both = rule_chosen c.args.space.now.lexicon.now c.args.space.now.line.now c.args.space.now.choices.now (numbered_of c.args.space.now.lexicon.now c.args.place.now) (key_meant c.args.from) c.requires.searched c.requires.phase c.requires.letters c.args.node c.requires.node
    c.args.letter c.requires.letter c.rules_from-rules.result.now c.rules_from-rules.ensures.rising (left_over g (goal.at.turn_by_rule-requires-clause-rule g c).After-rules_from-rules)
    c.loop-rule.rule-index (get_or c.rules_from-rules.result.now c.loop-rule.rule-index 0) c.loop-rule-test.true refl in
    both.0

pub turn_by_rule-requires-clause-order : goal.turn_by_rule-requires-clause-order
turn_by_rule-requires-clause-order g c =
    let both = rule_chosen c.args.space.now.lexicon.now c.args.space.now.line.now c.args.space.now.choices.now (numbered_of c.args.space.now.lexicon.now c.args.place.now) (key_meant c.args.from) c.requires.searched c.requires.phase c.requires.letters c.args.node c.requires.node
    c.args.letter c.requires.letter c.rules_from-rules.result.now c.rules_from-rules.ensures.rising (left_over g (goal.at.turn_by_rule-requires-clause-order g c).After-rules_from-rules)
    c.loop-rule.rule-index (get_or c.rules_from-rules.result.now c.loop-rule.rule-index 0) c.loop-rule-test.true refl in
    both.1

pub loop-rule-preserved : goal.loop-rule-preserved
loop-rule-preserved g c =
    record {
      none = one_more_tried c.args.space.now.lexicon.now c.args.space.now.line.now c.args.space.now.choices.now (numbered_of c.args.space.now.lexicon.now c.args.place.now) (key_meant c.args.from) c.rules_from-rules.result.now c.loop-rule.rule-index c.loop-rule.invariant.none (get_or c.rules_from-rules.result.now c.loop-rule.rule-index 0)
          refl c.in-None.ensures.first;
      spent = omega (arith, c.loop-rule.invariant.spent, c.turn_by_rule.ensures.steps);
    }

pub returns-in-Some-clause-first : goal.returns-in-Some-clause-first
returns-in-Some-clause-first g c =
    first_of_group c.args.space.now.lexicon.now c.args.space.now.line.now c.args.space.now.choices.now (numbered_of c.args.space.now.lexicon.now c.args.place.now) (key_meant c.args.from) c.requires.searched c.requires.phase c.requires.letters c.args.node c.requires.node
    c.args.letter c.requires.letter c.rules_from-rules.result.now c.rules_from-rules.ensures.rising (left_over g (goal.at.returns-in-Some-clause-first g c).After-rules_from-rules)
    (g.D.Guide.says c.args.space.now.guide.now) c.loop-rule.rule-index (get_or c.rules_from-rules.result.now c.loop-rule.rule-index 0) (key_meant c.in-Some.found.0) c.in-Some.found.1 c.loop-rule-test.true
    refl c.loop-rule.invariant.none c.in-Some.ensures.first

pub returns-in-Some-clause-steps : goal.returns-in-Some-clause-steps
returns-in-Some-clause-steps g c most few =
    let left = few_left g (goal.at.returns-in-Some-clause-steps g c).After-rules_from-rules most few in
    let low = c.loop-rule-test.true in
    omega (arith, left, low, c.loop-rule.invariant.spent, c.turn_by_rule.ensures.steps)

pub returns-clause-first : goal.returns-clause-first
returns-clause-first g c =
    let ended : c.loop-rule.rule-index ≡ length c.rules_from-rules.result.now = omega (arith, c.loop-rule-test.false) in
    none_of_group c.args.space.now.lexicon.now c.args.space.now.line.now c.args.space.now.choices.now (numbered_of c.args.space.now.lexicon.now c.args.place.now) (key_meant c.args.from) c.requires.searched c.requires.phase c.requires.letters c.args.node c.requires.node
    c.args.letter c.requires.letter c.rules_from-rules.result.now c.rules_from-rules.ensures.rising (left_over g (goal.at.returns-clause-first g c).After-rules_from-rules)
    (subst (λ (n : ℕ). HasNoneOf c.args.space.now.lexicon.now c.args.space.now.line.now c.args.space.now.choices.now (numbered_of c.args.space.now.lexicon.now c.args.place.now) (IsTriedRule (key_meant c.args.from) c.rules_from-rules.result.now n)) ended c.loop-rule.invariant.none)

pub returns-clause-steps : goal.returns-clause-steps
returns-clause-steps g c most few =
    let left = few_left g (goal.at.returns-clause-steps g c).After-rules_from-rules most few in
    let ended : c.loop-rule.rule-index ≡ length c.rules_from-rules.result.now = omega (arith, c.loop-rule-test.false) in
    omega (arith, left, ended, c.loop-rule.invariant.spent)
