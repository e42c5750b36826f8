-- One word more is drawn after the draws so far, and put at the end.
use Rattle.std.proofs.Common.{refl, ◌∙◌}
use Rattle.demo_definitions.specs.Draws.{seed_after}
use Rattle.demo_definitions.specs.DrawnTexts.{text_drawn}
use Rattle.demo_counts.proofs.DrawnLemmas.{seeds_more, words_more}
use Rattle.demo_counts.proofs.text.draw_text.Goals as goal

pub loop-init : goal.loop-init
unfolding seed_after text_drawn
loop-init c = (refl, c.new-text.ensures.items)

pub loop-preserved : goal.loop-preserved
loop-preserved c =
    let was = c.loop.invariant in (
      seeds_more _ 2 _ _ _ was.0 c.in_ok-word.ensures.seed,
      words_more _ _ _ _ _ _ _ was.0 was.1 (c.as_slice.ensures.value ∙ c.in_ok-word.ensures.word) c.in_ok-push_word.ensures.ok,
    )
