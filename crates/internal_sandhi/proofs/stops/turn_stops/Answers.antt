-- One turn of the loop: the letter at the place has turned, or has stayed.
use Rattle.std.proofs.Common.{arith}
use Rattle.std.proofs.lemmas.Grind.{common_steps}
use Rattle.internal_sandhi.proofs.StopSteps.{stops_turn, stops_stay}
use Rattle.internal_sandhi.proofs.stops.turn_stops.Goals as goal
use Rattle.internal_sandhi.proofs.stops.turn_stops.Goals.{then-is_turning_stop, else-is_turning_stop}

pub loop-place-preserved : goal.loop-place-preserved
loop-place-preserved c =
    elim c.if-is_turning_stop.branch [
      | then-is_turning_stop w ↦ rw w.letters-is (stops_turn _ _ _ _ _ c.loop-place.invariant c.loop-place.auto.place (omega arith) (grind (arith, common_steps)) (grind (arith, common_steps)))
      | else-is_turning_stop w ↦ rw w.letters-is (stops_stay _ _ _ _ c.loop-place.invariant (grind (arith, common_steps)))
    ]
