-- One portion more is cut off in each turn.
use Rattle.std.proofs.Common.{◌+◌, ◌-◌, List, length, take, drop, refl, sym, subst, arith}
use Rattle.batch_reader.specs.declared.asked.Asked.{Asked}
use Rattle.batch_reader.proofs.RepliedLines.{HasCutPortions, portion_cut}
use Rattle.batch_reader.proofs.block.cut_portions.Goals as goal

pub loop-left-preserved : goal.loop-left-preserved
loop-left-preserved c =
    subst (λ (items : List Asked). HasCutPortions c.args.number c.args.lines.now items (c.loop-left.next + c.min-count.result)
    (take (length c.loop-left.left.now - c.min-count.result) (drop c.min-count.result c.loop-left.left.now))) (sym c.in_ok-push.ensures.items)
    (portion_cut c.args.number c.args.lines.now c.loop-left.asked.items c.loop-left.next c.min-count.result c.loop-left.left.now _ c.loop-left.invariant
    (omega (arith, c.min-count.ensures)) refl refl)
