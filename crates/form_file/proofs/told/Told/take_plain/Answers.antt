-- The fields spell two letters, or the line is refused; the pair rises, or it is refused; then it is the last.
use Rattle.std.proofs.Common.{Some, Ok, arith, ◌∙◌, ap}
use Rattle.std.proofs.lemmas.Result.{err_from_is_err_and}
use Rattle.text_definitions.specs.Slp1.{word_of_slp1}
use Rattle.lexicon_text_definitions.specs.FileLines.{fields_of}
use Rattle.lexicon_text_definitions.specs.FileSteps.{if_rising, one_letter, take_plain as take_plain_of}
use Rattle.lexicon_text_definitions.proofs.LineSteps.{with_pair}
use Rattle.form_file.specs.declared.error.FileWhy.TheVariants.{Field}
use Rattle.form_file.proofs.AnswerLemmas.{refused_for}
use Rattle.form_file.proofs.PairLemmas.{two_fit, not_spelled, no_pair, left_missing, right_missing, both_read, not_risen, same_order, pair_pushed}
use Rattle.form_file.proofs.StageLemmas.{pairs_same, pairs_more}
use Rattle.form_file.proofs.told.Told.take_plain.Goals as goal

pub returns-in_default : goal.returns-in_default
returns-in_default c =
    refused_for (Unit {0}) (take_plain_of c.args.self.now (fields_of (Some c.args.text.now))) c.into.result Field c.args.self.now (cc)
    (no_pair c.args.self.now (fields_of (Some c.args.text.now)) c.in_default.ensures)

pub read_letter-requires : goal.read_letter-requires
read_letter-requires c =
    let fit = two_fit c.args.text.now c.in-Some.left.now c.in-Some.right.now c.in-Some.ensures in
    let fits = c.requires.fits in omega (arith, fit.0)

pub read_letter-requires-2 : goal.read_letter-requires-2
read_letter-requires-2 c =
    let fit = two_fit c.args.text.now c.in-Some.left.now c.in-Some.right.now c.in-Some.ensures in
    let fits = c.requires.fits in omega (arith, fit.1)

pub returns-in_err-left : goal.returns-in_err-left
returns-in_err-left c =
    let p = err_from_is_err_and c.from_residual.result c.from_residual.ensures.1 in
    rw (p.1, p.2)
    (not_spelled (Unit {0}) (one_letter (word_of_slp1 c.in-Some.left.now)) c.in_err-left.field-0.0 (take_plain_of c.args.self.now (fields_of (Some c.args.text.now))) c.args.self.now c.in_err-left.ensures
    (left_missing c.args.self.now (fields_of (Some c.args.text.now)) c.in-Some.left.now c.in-Some.right.now c.in-Some.ensures))

pub returns-in_err-right : goal.returns-in_err-right
returns-in_err-right c =
    let p = err_from_is_err_and c.from_residual-in_err-right.result c.from_residual-in_err-right.ensures.1 in
    rw (p.1, p.2)
    (not_spelled (Unit {0}) (one_letter (word_of_slp1 c.in-Some.right.now)) c.in_err-right.field-0.0 (take_plain_of c.args.self.now (fields_of (Some c.args.text.now))) c.args.self.now c.in_err-right.ensures
    (right_missing c.args.self.now (fields_of (Some c.args.text.now)) c.in-Some.left.now c.in-Some.right.now c.in-Some.ensures))

pub returns-in_err-rising : goal.returns-in_err-rising
returns-in_err-rising c =
    let p = err_from_is_err_and c.from_residual-in_err-rising.result c.from_residual-in_err-rising.ensures.1 in
    let more = with_pair c.args.self.now (c.in_ok-left.left, c.in_ok-right.right) in
    let read = both_read c.args.self.now (fields_of (Some c.args.text.now)) c.in-Some.left.now c.in-Some.right.now c.in_ok-left.left c.in_ok-right.right c.in-Some.ensures c.in_ok-left.ensures c.in_ok-right.ensures in
    let order = same_order c.args.self.now _ _ (c.in_ok-left.left, c.in_ok-right.right) c.compare_last_pair.result c.self.view_is c.as_slice.ensures.value c.compare_last_pair.ensures in
    rw (p.1, p.2)
    (not_risen (Unit {0}) (Unit {0}) (take_plain_of c.args.self.now (fields_of (Some c.args.text.now))) c.compare_last_pair.result more c.args.self.now c.in_err-rising.field-0.0
    (read ∙ ap (λ order. if_rising order more) order) (c.in_err-rising.ensures more))

pub returns : goal.returns
returns c =
    let more = with_pair c.args.self.now (c.in_ok-left.left, c.in_ok-right.right) in
    let read = both_read c.args.self.now (fields_of (Some c.args.text.now)) c.in-Some.left.now c.in-Some.right.now c.in_ok-left.left c.in_ok-right.right c.in-Some.ensures c.in_ok-left.ensures c.in_ok-right.ensures in
    let order = same_order c.args.self.now _ _ (c.in_ok-left.left, c.in_ok-right.right) c.compare_last_pair.result c.self.view_is c.as_slice.ensures.value c.compare_last_pair.ensures in
    read ∙ ap (λ order. if_rising order more) order ∙ c.in_ok-rising.ensures more ∙ ap Ok (pair_pushed c.args.self.now _ (c.in_ok-left.left, c.in_ok-right.right) _ c.self.view_is c.in_ok-push.ensures.items)

pub invariant_of-self : goal.invariant_of-self
invariant_of-self c = pairs_same _ c.args.self.now c.push.new.self.items c.self.inside.automaton c.self.inside.forms.value c.self.view_is c.in_err-push.ensures.items c.self.invariant

pub invariant_of-self-2 : goal.invariant_of-self-2
invariant_of-self-2 c = pairs_more _ c.args.self.now c.push.new.self.items c.self.inside.automaton c.self.inside.forms.value c.self.view_is c.requires.follows c.self.invariant
