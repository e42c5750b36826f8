-- Each item's line is put after those before it.
use Rattle.std.proofs.Common.{arith}
use Rattle.reader_session.proofs.ItemLines.{item_appended}
use Rattle.reader_session.proofs.summary_printing.push_summary.Goals as goal

pub loop-item-preserved : goal.loop-item-preserved
loop-item-preserved c = record {
  number = omega arith;
  printed = item_appended c.args.rules.now c.args.items.now c.loop-item.item-index c.loop-item.number c.item-item.result _ _ _
      c.loop-item-test.true c.item-item.is c.in_ok-push_item.ensures.ok c.loop-item.invariant.printed;
}
