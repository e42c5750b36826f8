-- The longer of the longest u so far and one more.
use Rattle.std.proofs.Common.{◌≡◌, ◌≤◌, ℕ, length, take, get_or, sym, ap, ◌∙◌, subst, arith}
use Rattle.std.specs.List.{All}
use Rattle.std.specs.Ordering.{nat_cmp, ord_max}
use Rattle.std.proofs.lemmas.Bool.Decides.{nat_tests}
use Rattle.std.proofs.lemmas.List.{take_all, get_or_read}
use Rattle.std.proofs.lemmas.List.Elements.{All-more, All-weaker}
use Rattle.lexicon_definitions.specs.Rules.{Rule, no_change}
use Rattle.strictness.proofs.phase_walk.longest_of_all.Goals as goal

greatest : (a b : ℕ) → (a ≤ ord_max nat_cmp a b) × (b ≤ ord_max nat_cmp a b)
greatest a b = (grind (arith, nat_tests), grind (arith, nat_tests))

pub loop-rule-preserved : goal.loop-rule-preserved
loop-rule-preserved c =
    let rules = c.rules-rule-items.result.now in
    let i = c.loop-rule.rule-index in
    let both = subst (λ (m : ℕ). (c.loop-rule.longest ≤ m) × (c.len.result ≤ m)) (sym c.max-longest.ensures) (greatest c.loop-rule.longest c.len.result) in
    let more = both.0 in
    let here = both.1 in
    let Before : Rule → Type 0 = λ rule. length rule.u ≤ c.loop-rule.longest in
    let Now : Rule → Type 0 = λ rule. length rule.u ≤ c.max-longest.result in
    let is : c.rule-item.result ≡ get_or rules i no_change = get_or_read rules i c.rule-item.result c.loop-rule-test.true c.rule-item.is no_change in
    let long : length c.rule-item.result.u ≡ c.len.result = ap (λ (rule : Rule). length rule.u) (sym c.rule.view_is) ∙ sym c.len.ensures.value in
    All-more Now rules i no_change c.loop-rule-test.true
    (All-weaker Before Now (λ rule h. omega (arith, more, h)) (take i rules) c.loop-rule.invariant)
    (subst Now is (omega (arith, here, long)))

pub returns : goal.returns
returns c =
    let past : length c.args.rules.now.rules ≤ c.loop-rule.rule-index = omega (arith, c.loop-rule-test.false, ap length c.rules-rule-items.ensures.value) in
    subst (All (λ (rule : Rule). length rule.u ≤ c.loop-rule.longest)) (ap (take c.loop-rule.rule-index) c.rules-rule-items.ensures.value ∙ take_all c.loop-rule.rule-index c.args.rules.now.rules past) c.loop-rule.invariant
