-- One choice more, or a refusal.
use Rattle.std.proofs.Common.{Err, ap}
use Rattle.reader_session.proofs.ChosenItems.{more_within, more_fit, room_before, chosen, too_many}
use Rattle.reader_session.proofs.choice_reply.choose.Goals as goal

pub begin-requires : goal.begin-requires
begin-requires c =
    let old = c.args.reading.now.choices in
    let new = c.add_choice.new.choices in
    record {
      stack = c.requires.reading.stack.is_stack;
      few = more_fit old new (record { kept = c.args.kept; item = c.args.item })
          (room_before old c.requires.reading.few (λ full. absurd (cc (c.in-Ok.ensures.full.1 full)))) c.in-Ok.ensures.ok;
      items = more_within old new (record { kept = c.args.kept; item = c.args.item }) c.requires.reading.items c.requires.item c.in-Ok.ensures.ok;
    }

pub returns-in_ok-push_ok-in-Ok : goal.returns-in_ok-push_ok-in-Ok
returns-in_ok-push_ok-in-Ok c = record {
  ok = chosen c.args.lexicon.now c.args.reading.now c.begin.new.self c.args.kept c.args.item c.add_choice.new.choices c.args.output.now.items
      c.push_ok.new.output.items c.begin.result
      (room_before c.args.reading.now.choices c.requires.reading.few (λ full. absurd (cc (c.in-Ok.ensures.full.1 full))))
      c.in-Ok.ensures.ok c.in_ok-push_ok-in-Ok.ensures c.begin.ensures.reading c.begin.ensures.state;
}

pub returns-in_ok-push_refusal-in-Err-Full : goal.returns-in_ok-push_refusal-in-Err-Full
returns-in_ok-push_refusal-in-Err-Full c = record {
  ok = too_many c.args.lexicon.now c.args.reading.now c.args.kept c.args.item c.add_choice.new.choices c.args.output.now.items
      c.push_refusal.new.output.items (c.in-Err-Full.ensures.full.0 (ap Err c.in-Err-Full.field-0-is)) c.in-Err-Full.ensures.unchanged
      c.in_ok-push_refusal-in-Err-Full.ensures c.requires.reading;
}
