-- Those of the candidates so far that pass are there.
use Rattle.std.specs.Ordering.{nat_cmp}
use Rattle.list_laws.specs.Firsts.{AreAll}
use Rattle.strictness.specs.Matches.{EndsForm}
use Rattle.strictness.proofs.NumberLists.{IsAmong}
use Rattle.strictness.proofs.matching.ending_rules.Given as goal

abbrev pub invariant-loop-number : goal.invariant-loop-number
invariant-loop-number l =
    AreAll nat_cmp (IsAmong (EndsForm l.fn.rules l.fn.phase l.fn.form) l.candidates l.number-index) l.numbers.items
