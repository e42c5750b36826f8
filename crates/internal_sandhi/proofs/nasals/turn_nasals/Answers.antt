-- One turn of the loop is a lemma over the flags; at the end the loop has passed the whole word.
use Rattle.std.proofs.Common.{inl, inr, arith}
use Rattle.internal_sandhi.proofs.NasalSteps.{flags_more, nasal_within}
use Rattle.internal_sandhi.proofs.Turning.{TurnsFrom-from_below}
use Rattle.internal_sandhi.proofs.nasals.turn_nasals.Goals as goal
use Rattle.internal_sandhi.proofs.nasals.turn_nasals.Goals.{then-turned, else-turned}

pub loop-place-preserved : goal.loop-place-preserved
loop-place-preserved c =
    flags_more _ _ _ _ _ _ _ _ _ _ c.loop-place.invariant (omega arith) c.if-turned.auto.letters c.turns-turned.ensures
    (elim c.if-turned.branch [ then-turned w ↦ inl (w.if-turned.true, rw w.letters-is (rw w.letter.ensures)) | else-turned w ↦ inr (w.if-turned.false, w.letters-is) ])
    c.index-letters-place.is c.reaches_past-reached.ensures

pub returns : goal.returns
returns c =
    TurnsFrom-from_below c.args.start c.loop-place.place _ _ c.args.letters.now c.loop-place.letters c.loop-place.invariant.done c.loop-place.auto.letters c.loop-place-test.false (nasal_within _ _ _)
