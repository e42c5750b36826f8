-- The first overlaps with one of the rules so far after the form are appended.
use Rattle.std.proofs.Common.{◌≡◌}
use Rattle.strictness.specs.Matches.{IsInForm}
use Rattle.strictness.specs.Appending.{AppendsFirst}
use Rattle.strictness.proofs.KeyLoops.{HasKeyAmong}
use Rattle.strictness.proofs.pairs.add_of_rule.Given as goal

abbrev pub invariant-loop-after : goal.invariant-loop-after
invariant-loop-after l =
    AppendsFirst (HasKeyAmong (λ x. x.after) (λ x. IsInForm l.fn.rules l.fn.phase l.fn.form x × (x.before ≡ l.fn.before)) l.afters l.after-index) l.initial.found l.found
