-- A line more is cut off in each turn.
use Rattle.std.proofs.Common.{List, refl, sym, subst}
use Rattle.text_line.specs.Values.{scheme_of}
use Rattle.batch_reader.specs.declared.asked.TextLine.{TextLine}
use Rattle.batch_reader.proofs.CutLines.{HasCutSoFar, cut_on}
use Rattle.batch_reader.proofs.block.cut_block.Goals as goal

pub loop-line-preserved : goal.loop-line-preserved
loop-line-preserved c =
    subst (λ (items : List TextLine). HasCutSoFar (scheme_of c.args.scheme) c.args.bytes.now items c.in-Some.following.now) (sym c.in_ok-push.ensures.items)
    (cut_on (scheme_of c.args.scheme) c.args.bytes.now c.loop-line.block.items c.loop-line.rest.now c.in-Some.line.now c.in-Some.following.now c.in-Some._ended _
    c.loop-line.invariant c.in-Some.ensures.line c.in-Some.ensures.shorter (refl, refl))
