-- The keys of the steps so far.
use Rattle.std.proofs.Common.{◌≡◌, take}
use Rattle.derivation.specs.Steps.{keys_of, keys_meant}
use Rattle.search_split.proofs.fronts.keys_of.Given as goal

abbrev pub invariant-loop-step : goal.invariant-loop-step
invariant-loop-step l = keys_meant l.keys.items ≡ keys_of (take l.step-index l.steps)
