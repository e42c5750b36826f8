-- The replies to the portions are those to the lines.
use Rattle.std.proofs.Common.{Vec, Global, ℕ, map}
use Rattle.std.proofs.lemmas.Result.{IfOk-weaker}
use Rattle.batch_reader.proofs.RepliedLines.{portions_replied}
use Rattle.batch_reader.proofs.batch.Batch.answer_block.Goals as goal

pub returns : goal.returns
returns g c =
    IfOk-weaker c.answer_all.result _ _
    (λ pieces are. portions_replied c.args.self.now.lexicon.now.lexicon c.args.self.now.count c.args.number c.args.lines.now c.in_ok-portions.portions.items
    (map (λ (piece : Vec ℕ Global). piece.items) pieces.items) c.in_ok-portions.ensures (rw c.as_slice.ensures.value at are))
    c.answer_all.ensures.ok
