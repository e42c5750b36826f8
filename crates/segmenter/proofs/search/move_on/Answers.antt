-- The frames stay as they are where the cursor is set.
use Rattle.std.proofs.Common.{Bool, true, ◌≡◌, sym, subst}
use Rattle.std.specs.Bool.{OnTrue}
use Rattle.segmenter.specs.Searches.{IsStackOf}
use Rattle.segmenter.proofs.SearchStacks.{stack_restood}
use Rattle.segmenter.proofs.search.move_on.Goals.{then-found, else-found}
use Rattle.segmenter.proofs.search.move_on.Goals as goal

if_true : {P : Type 0} (b : Bool) → b ≡ true → OnTrue b P → P
if_true {P = P} b is p = subst (λ b. OnTrue b P) is p

pub returns-clause-stack : goal.returns-clause-stack
returns-clause-stack g c =
    subst (IsStackOf c.args.space.now.lexicon.now c.args.space.now.line.now c.args.space.now.choices.now) (sym c.stand_at.ensures)
    (stack_restood c.args.space.now.lexicon.now c.args.space.now.line.now c.args.space.now.choices.now c.args.stack.now c.find_next_answer-found.new.stack c.if-found.cursor
    c.requires.stack c.find_next_answer-found.ensures.changes
    (λ at. elim c.if-found.branch [
      | then-found w ↦ (if_true c.find_next_answer-found.result w.if-found.true c.find_next_answer-found.ensures.found).answer
      | else-found w ↦ absurd (cc (at, w.cursor-is))
    ]))
