-- The text so far is that of the draws so far.
use Rattle.std.proofs.Common.{◌≡◌, ◌*◌}
use Rattle.demo_definitions.specs.Draws.{seed_after}
use Rattle.demo_definitions.specs.DrawnTexts.{text_drawn}
use Rattle.demo_counts.proofs.text.draw_text.Given as goal

abbrev pub invariant-loop : goal.invariant-loop
invariant-loop l = (l.draws ≡ seed_after l.fn.draws (2 * l.counter)) × (l.text.items ≡ text_drawn l.stems l.fn.draws l.counter)
