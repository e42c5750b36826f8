-- The keys so far are the same.
use Rattle.std.proofs.Common.{◌≡◌, take}
use Rattle.derivation.specs.Steps.{keys_of, keys_meant}
use Rattle.search_split.proofs.fronts.has_front.Given as goal

abbrev pub invariant-loop-place : goal.invariant-loop-place
invariant-loop-place l = keys_of (take l.place l.steps) ≡ keys_meant (take l.place l.front)
