-- The parts are written one after another.
use Rattle.std.proofs.Common.{length, ap, arith}
use Rattle.std.specs.Prelude.{string_bytes}
use Rattle.std.proofs.lemmas.List.{length-map}
use Rattle.std.proofs.lemmas.Grind.{common_steps}
use Rattle.derivation.proofs.printing.push_form.Goals as goal

pub bounds-phases-step : goal.bounds-phases-step
bounds-phases-step c = omega (arith, length-map c.phases.result.now string_bytes, ap length c.phases.ensures, c.requires.phase)

pub returns : goal.returns
returns c = grind (arith, common_steps)
