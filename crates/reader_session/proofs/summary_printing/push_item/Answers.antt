-- The parts of the line are appended after one another.
use Rattle.reader_session.proofs.ItemLines.{item_printed, part_appended}
use Rattle.reader_session.proofs.summary_printing.push_item.Goals as goal

pub returns : goal.returns
returns c = record {
  ok = item_printed c.args.rules.now c.args.item.now _ c.args.number _ _ c.args.output.now.items _ c.item.view_is c.from.ensures c.from-2.ensures
      (part_appended _ _ _ _ _ (part_appended _ _ _ _ _ (part_appended _ _ _ _ _ (part_appended _ _ _ _ _ (part_appended _ _ _ _ _
      (part_appended _ _ _ _ _ c.in_ok-push_number.ensures c.in_ok-extend_from_slice.ensures.items)
      c.in_ok-push_number-2.ensures) c.in_ok-push.ensures.items)
      c.in_ok-push_number-3.ensures) c.in_ok-push-2.ensures.items) c.in_ok-push_form.ensures.ok);
}
