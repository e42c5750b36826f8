-- The keys so far are those of the steps so far.
use Rattle.std.proofs.Common.{◌≡◌, take}
use Rattle.derivation.specs.Steps.{keys_of as step_keys, keys_meant}
use Rattle.annotation.proofs.only_answers.keys_of.Given as goal

abbrev pub invariant-loop-step : goal.invariant-loop-step
invariant-loop-step l = keys_meant l.keys.items ≡ step_keys (take l.step-index l.steps)
