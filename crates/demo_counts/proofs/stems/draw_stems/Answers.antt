-- One stem more is drawn after the draws so far, and put in where it is new.
use Rattle.std.proofs.Common.{refl}
use Rattle.demo_definitions.specs.Draws.{seed_after}
use Rattle.demo_definitions.specs.DrawnStems.{stems_drawn}
use Rattle.demo_counts.proofs.DrawnLemmas.{seeds_more, stems_more}
use Rattle.demo_counts.proofs.stems.draw_stems.Goals as goal

pub loop-init : goal.loop-init
unfolding seed_after stems_drawn
loop-init c = (refl, c.new-stems.ensures.empty)

pub loop-preserved : goal.loop-preserved
loop-preserved c =
    let was = c.loop.invariant in (
      seeds_more _ 5 _ _ _ was.0 c.draw_stem.ensures.seed,
      stems_more _ _ _ _ _ _ was.0 was.1 c.draw_stem.ensures.stem c.in_ok-insert.ensures.keys,
    )
