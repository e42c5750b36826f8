-- The stems so far are those of the draws so far.
use Rattle.std.proofs.Common.{◌≡◌, ◌*◌}
use Rattle.demo_definitions.specs.Draws.{seed_after}
use Rattle.demo_definitions.specs.DrawnStems.{stems_drawn}
use Rattle.demo_counts.proofs.stems.draw_stems.Given as goal

abbrev pub invariant-loop : goal.invariant-loop
invariant-loop l = (l.draws ≡ seed_after l.fn.draws (5 * l.counter)) × (l.stems.keys ≡ stems_drawn l.fn.draws l.counter)
