-- A child has a smaller number; and the first overlaps that go on by one of the letters so far are appended.
use Rattle.strictness.specs.Appending.{AppendsFirst}
use Rattle.strictness.proofs.WalkedForms.{IsFurtherAmong}
use Rattle.strictness.proofs.walking.+add_below.Given as goal

abbrev pub decreases-add_below : goal.decreases-add_below
decreases-add_below l = l.node

abbrev pub invariant-loop-letter : goal.invariant-loop-letter
invariant-loop-letter l =
    AppendsFirst (IsFurtherAmong l.fn.walk.rules.now l.fn.walk.store.now.rows l.fn.walk.phase l.front l.fn.node l.letter-index) l.initial.found l.found
