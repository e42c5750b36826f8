-- One text more is read, or refused.
use Rattle.std.proofs.lemmas.Result.{err_from_is_err_and}
use Rattle.annotation.proofs.ChoicesRead.{error_there, one_more, all_read}
use Rattle.annotation.proofs.told.read_choices.Goals as goal

pub returns-in_err-choice : goal.returns-in_err-choice
returns-in_err-choice c =
    let p = err_from_is_err_and c.from_residual.result c.from_residual.ensures.1 in
    rw (p.1, p.2)
    (error_there c.args.lexicon.now.lexicon c.args.texts.now c.loop-text.text-index c.text-item.result c.text_in.result.now c.loop-text.choices
    c.loop-text-test.true c.text-item.is c.text_in.ensures c.loop-text.invariant c.in_err-choice.field-0.0 c.in_err-choice.ensures)

pub loop-text-preserved : goal.loop-text-preserved
loop-text-preserved c =
    one_more c.args.lexicon.now.lexicon c.args.texts.now c.loop-text.text-index c.text-item.result c.text_in.result.now c.loop-text.choices
    c.loop-text-test.true c.text-item.is c.text_in.ensures c.loop-text.invariant c.in_ok-choice.choice c.add_choice.new.choices c.in_ok-choice.ensures
    (λ full. let no = c.in-Ok.ensures.full.1 full in absurd (cc)) c.in-Ok.ensures.ok

pub returns : goal.returns
returns c = all_read c.args.lexicon.now.lexicon c.args.texts.now c.loop-text.text-index c.loop-text.choices c.loop-text-test.false c.loop-text.invariant
