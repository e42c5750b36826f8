-- The first draw gives the stem, the second the ending.
use Rattle.demo_counts.proofs.DrawnLemmas.{two_draws, word_made}
use Rattle.demo_counts.proofs.text.draw_word.Goals as goal

pub returns-clause-word : goal.returns-clause-word
returns-clause-word c =
    word_made _ _ _ _ _ _ _ _ c.draw.ensures.drawn c.draw.ensures.seed c.draw-2.ensures.drawn (c.told-stems c.draw.result c.draw.ensures.below)
    c.in_ok-word.ensures.items c.ending_at.ensures c.in_ok-extend_from_slice.ensures.items

pub returns-clause-seed : goal.returns-clause-seed
returns-clause-seed c = two_draws _ _ _ c.draw.ensures.seed c.draw-2.ensures.seed
