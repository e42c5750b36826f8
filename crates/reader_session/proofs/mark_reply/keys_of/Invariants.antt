-- So far the keys are those of the steps that were gone over.
use Rattle.std.proofs.Common.{◌≡◌, take}
use Rattle.derivation.specs.Steps.{keys_of as step_keys, keys_meant}
use Rattle.reader_session.proofs.mark_reply.keys_of.Given as goal

abbrev pub invariant-loop-step : goal.invariant-loop-step
invariant-loop-step l = keys_meant l.keys.items ≡ step_keys (take l.step-index l.steps)
