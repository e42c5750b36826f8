-- Each letter is drawn after those before it.
use Rattle.demo_counts.proofs.DrawnLemmas.{five_draws, letters_of_stem}
use Rattle.demo_counts.proofs.stems.draw_stem.Goals as goal

pub returns-clause-stem : goal.returns-clause-stem
returns-clause-stem c =
    letters_of_stem _ _ _ _ _ _ c.draw_letter-first.ensures.seed c.draw_letter-second.ensures.seed c.draw_letter-third.ensures.seed
    c.draw_letter-fourth.ensures.seed c.draw_letter-fifth.ensures.seed _ _ _ _ _ c.draw_letter-first.ensures.letter
    c.draw_letter-second.ensures.letter c.draw_letter-third.ensures.letter c.draw_letter-fourth.ensures.letter c.draw_letter-fifth.ensures.letter

pub returns-clause-seed : goal.returns-clause-seed
returns-clause-seed c =
    five_draws _ _ _ _ _ _ c.draw_letter-first.ensures.seed c.draw_letter-second.ensures.seed c.draw_letter-third.ensures.seed
    c.draw_letter-fourth.ensures.seed c.draw_letter-fifth.ensures.seed
