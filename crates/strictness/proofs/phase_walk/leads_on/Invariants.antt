-- Those of the candidates so far that may begin a form are there.
use Rattle.std.specs.Ordering.{nat_cmp}
use Rattle.list_laws.specs.Firsts.{AreAll}
use Rattle.strictness.specs.Walks.{MayBegin}
use Rattle.strictness.proofs.NumberLists.{IsAmong}
use Rattle.strictness.proofs.phase_walk.leads_on.Given as goal

abbrev pub invariant-loop-place : goal.invariant-loop-place
invariant-loop-place l =
    AreAll nat_cmp (IsAmong (MayBegin l.fn.walk.rules.now l.fn.walk.phase l.fn.walk.longest l.fn.front) l.candidates l.place-index) l.places.items
