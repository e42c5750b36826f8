-- The parts are appended after one another.
use Rattle.reader_session.proofs.ItemLines.{form_printed, part_appended}
use Rattle.reader_session.proofs.summary_printing.push_form.Goals as goal

pub returns : goal.returns
returns c = record {
  ok = form_printed c.args.rules.now c.args.item.now _ c.args.output.now.items _ _ _ c.item.view_is c.as_bytes.ensures.value c.phase_name.ensures
      (part_appended _ _ _ _ _ (part_appended _ _ _ _ _ (part_appended _ _ _ _ _ c.in_ok-push_slp1.ensures.ok
      c.in_ok-push.ensures.items) c.in_ok-extend_from_slice.ensures.items) c.in_ok-extend_from_slice-2.ensures.items);
}
