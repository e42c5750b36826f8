-- One choice less, or a refusal.
use Rattle.std.proofs.Common.{refl}
use Rattle.segmentation_definitions.specs.Items.{Choice}
use Rattle.reader_session.proofs.ChosenItems.{fewer_within, fewer_fit, taken_back, none_taken_back}
use Rattle.reader_session.proofs.choice_reply.take_back.Goals as goal

pub begin-requires : goal.begin-requires
begin-requires c =
    let old = c.args.reading.now.choices in
    let choice : Choice = record { kept = c.in-Some.ensures.some.0; item = c.in-Some.field-0 } in
    record {
      stack = c.requires.reading.stack.is_stack;
      few = fewer_fit old c.undo.new.self choice c.requires.reading.few c.in-Some.ensures.some.1;
      items = fewer_within old c.undo.new.self choice c.requires.reading.items c.in-Some.ensures.some.1;
    }

pub returns : goal.returns
returns c = record {
  ok = taken_back c.args.lexicon.now c.args.reading.now c.begin.new.self (record { kept = c.in-Some.ensures.some.0; item = c.in-Some.field-0 }) c.undo.new.self
      c.args.output.now.items c.push_ok.new.output.items c.begin.result c.in-Some.ensures.some.1 c.in_ok-push_ok.ensures
      c.begin.ensures.reading c.begin.ensures.state;
}

pub returns-in_default : goal.returns-in_default
returns-in_default c = record {
  ok = none_taken_back c.args.lexicon.now c.args.reading.now c.undo.new.self c.args.output.now.items c.push_refusal.new.output.items
      (c.in_default.ensures.none.0 refl) c.in_default.ensures.unchanged c.in_ok-push_refusal.ensures c.requires.reading;
}
