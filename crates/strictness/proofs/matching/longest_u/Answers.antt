-- One u more is no longer than the greater of the two.
use Rattle.std.proofs.Common.{ℕ, ◌≤◌, length, take, subst, arith}
use Rattle.std.specs.List.{All}
use Rattle.std.proofs.lemmas.List.{take_all}
use Rattle.std.proofs.lemmas.List.Elements.{All-more, All-weaker}
use Rattle.lexicon_definitions.specs.declared.limits.TheConstants.{MOST_RULE_LETTERS}
use Rattle.lexicon_definitions.specs.Lexicons.{rule_of}
use Rattle.strictness.proofs.matching.longest_u.Goals as goal
use Rattle.strictness.proofs.matching.longest_u.Goals.{then-letters-longest, else-letters-longest}

pub loop-number-preserved : goal.loop-number-preserved
loop-number-preserved c =
    let rules = c.args.rules.now in
    let numbers = c.args.numbers.now in
    let i = c.loop-number.number-index in
    let longest = c.if-letters-longest.longest in
    let greater : c.loop-number.longest ≤ longest = elim c.if-letters-longest.branch [
      | then-letters-longest w ↦ omega arith
      | else-letters-longest w ↦ omega arith
    ] in
    let here : c.length_of_u-letters.result ≤ longest = elim c.if-letters-longest.branch [
      | then-letters-longest w ↦ omega arith
      | else-letters-longest w ↦ omega arith
    ] in
    let short : longest ≤ MOST_RULE_LETTERS = elim c.if-letters-longest.branch [
      | then-letters-longest w ↦ omega (arith, c.length_of_u-letters.ensures.short)
      | else-letters-longest w ↦ omega (arith, c.loop-number.invariant.short)
    ] in
    let Before : ℕ → Type 0 = λ n. length (rule_of rules n).u ≤ c.loop-number.longest in
    let Now : ℕ → Type 0 = λ n. length (rule_of rules n).u ≤ longest in
    record {
      value = All-more Now numbers i 0 c.loop-number-test.true
          (All-weaker Before Now (λ n h. omega (arith, greater, h)) (take i numbers) c.loop-number.invariant.value)
          (omega (arith, here, c.length_of_u-letters.ensures.value));
      short = short;
    }

pub returns-clause-value : goal.returns-clause-value
returns-clause-value c =
    subst (All (λ n. length (rule_of c.args.rules.now n).u ≤ c.loop-number.longest))
    (take_all c.loop-number.number-index c.args.numbers.now c.loop-number-test.false) c.loop-number.invariant.value
