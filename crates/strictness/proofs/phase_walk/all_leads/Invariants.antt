-- The places below this one are there.
use Rattle.std.proofs.Common.{◌<◌}
use Rattle.std.specs.Ordering.{nat_cmp}
use Rattle.list_laws.specs.Firsts.{AreAll}
use Rattle.strictness.proofs.phase_walk.all_leads.Given as goal

abbrev pub invariant-loop-place : goal.invariant-loop-place
invariant-loop-place l = AreAll nat_cmp (λ place. place < l.place) l.places.items
