-- While a choice is left there are not too many.
use Rattle.std.proofs.Common.{◌≡◌, Err, length, ap, ◌∙◌, arith}
use Rattle.std.proofs.lemmas.Iterator.Consumers.{YieldsList-turn}
use Rattle.std.proofs.lemmas.Iterator.Adapters.{YieldsList-from_vec}
use Rattle.segmentation_definitions.specs.declared.limits.TheConstants.{MOST_CHOICES}
use Rattle.reader_session.proofs.resume_reply.choices_of.Goals as goal

pub returns-in-Err-Full : goal.returns-in-Err-Full
returns-in-Err-Full c =
    let gives = c.into_iter-choice-iterator.ensures.into_iter_gives in
    let listed = YieldsList-from_vec {s = c.into_iter-choice-iterator.result} c.args.list.items gives.0 (gives.1 ∙ c.args.list.ok.0) in
    let turn = YieldsList-turn listed c.loop-choice.yielded c.loop-choice.choice-iterator c.loop-choice.yielded_by c.next.result
    c.next.new.self c.in-Some.choice c.in-Some.is c.next.ensures.steps in
    let full : length c.loop-choice.choices ≡ MOST_CHOICES = c.add_choice.ensures.full.0 (c.in-Err-Full.is ∙ ap Err c.in-Err-Full.field-0-is) in
    let so_far = ap length c.loop-choice.invariant in
    record { ok = absurd (omega (arith, full, turn.0, so_far, c.requires.few)) }
