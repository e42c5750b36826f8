-- One object more, and after the last step the objects of all.
use Rattle.std.proofs.Common.{◌∙◌, ap}
use Rattle.serde_json.specs.Data.{array}
use Rattle.serde_json.specs.View.{items_of}
use Rattle.serde_json.proofs.Views.{view-Array}
use Rattle.annotation.proofs.WrittenSegments.{made_next, made_all}
use Rattle.annotation.proofs.segments.segments_value.Goals as goal

pub loop-step-preserved : goal.loop-step-preserved
loop-step-preserved c =
    let lexicon = c.args.lexicon.now.lexicon in
    let letters = c.args.line.now.letters in
    let made = made_next lexicon letters c.loop-step.before c.args.steps.now c.loop-step.step-index (record { phase = 0; rule = 0; at = 0; lead = 0; taken = 0 })
    c.loop-step.list.items c.push.new.self.items c.in_ok-segment_value.field-0 _ c.loop-step-test.true
    (record { before_rule = c.loop-step.invariant.before; stand = c.loop-step.invariant.stand; together = c.loop-step.invariant.made })
    c.in_ok-push.ensures.items c.in_ok-segment_value.ensures.ok in
    record { before = made.before_rule; stand = made.stand; made = made.together }

pub returns : goal.returns
returns c =
    let lexicon = c.args.lexicon.now.lexicon in
    let all = made_all lexicon c.args.line.now.letters c.loop-step.before c.args.steps.now c.loop-step.step-index c.loop-step.list.items _ c.loop-step-test.false
    (record { before_rule = c.loop-step.invariant.before; stand = c.loop-step.invariant.stand; together = c.loop-step.invariant.made }) in
    record { ok = view-Array c.loop-step.list ∙ ap (λ l. array (items_of l)) all }
