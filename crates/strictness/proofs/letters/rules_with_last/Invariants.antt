-- The rules below the number that pass are there.
use Rattle.std.specs.Ordering.{nat_cmp}
use Rattle.list_laws.specs.Firsts.{AreAll}
use Rattle.strictness.specs.Matches.{HasLast}
use Rattle.strictness.proofs.NumberLists.{IsBelow}
use Rattle.strictness.proofs.letters.rules_with_last.Given as goal

abbrev pub invariant-loop-number : goal.invariant-loop-number
invariant-loop-number l = AreAll nat_cmp (IsBelow (HasLast l.fn.rules l.fn.letter) l.number) l.numbers.items
