-- The first overlaps with one of the rules so far before the form are appended.
use Rattle.strictness.specs.Matches.{IsInForm}
use Rattle.strictness.specs.Appending.{AppendsFirst}
use Rattle.strictness.proofs.KeyLoops.{HasKeyAmong}
use Rattle.strictness.proofs.pairs.add_of_form.Given as goal

abbrev pub invariant-loop-before : goal.invariant-loop-before
invariant-loop-before l =
    AppendsFirst (HasKeyAmong (λ x. x.before) (IsInForm l.fn.rules l.fn.phase l.fn.form) l.before-items l.before-index) l.initial.found l.found
