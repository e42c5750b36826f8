-- The rules below the number that pass are there.
use Rattle.std.specs.Ordering.{nat_cmp}
use Rattle.list_laws.specs.Firsts.{AreAll}
use Rattle.strictness.specs.Matches.{HasFirst}
use Rattle.strictness.proofs.NumberLists.{IsBelow}
use Rattle.strictness.proofs.letters.rules_with_first.Given as goal

abbrev pub invariant-loop-number : goal.invariant-loop-number
invariant-loop-number l = AreAll nat_cmp (IsBelow (HasFirst l.fn.rules l.fn.letter) l.number) l.numbers.items
