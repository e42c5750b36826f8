-- The field has three parts that spell words, or the line is refused; then the triple decides.
use Rattle.std.proofs.Common.{Some, arith, subst}
use Rattle.std.proofs.lemmas.Result.{err_from_is_err_and}
use Rattle.lexicon_text_definitions.specs.FileLines.{fields_of}
use Rattle.lexicon_text_definitions.specs.FileSteps.{Taken, take_rule as take_rule_of}
use Rattle.form_file.specs.declared.error.FileWhy.TheVariants.{Field}
use Rattle.form_file.specs.Told.{IsAnswer}
use Rattle.form_file.proofs.AnswerLemmas.{refused_for}
use Rattle.form_file.proofs.RuleLemmas.{parts_fit, no_field, no_shape, u_refused, v_refused, w_refused, triple_decides}
use Rattle.form_file.proofs.told.Told.take_rule.Goals as goal

pub returns-in_default : goal.returns-in_default
returns-in_default c =
    refused_for (Unit {0}) (take_rule_of c.args.self.now (fields_of (Some c.args.text.now))) c.into.result Field c.args.self.now (cc)
    (no_field c.args.self.now (fields_of (Some c.args.text.now)) c.in_default.ensures)

pub returns-in_default-rule_parts : goal.returns-in_default-rule_parts
returns-in_default-rule_parts c =
    refused_for (Unit {0}) (take_rule_of c.args.self.now (fields_of (Some c.args.text.now))) c.into-in_default-rule_parts.result Field c.args.self.now (cc)
    (no_shape c.args.self.now (fields_of (Some c.args.text.now)) c.in-Some.field.now c.in-Some.ensures c.in_default-rule_parts.ensures)

pub read_word-requires : goal.read_word-requires
read_word-requires c =
    let fit = parts_fit c.args.text.now c.in-Some.field.now _ c.in-Some.ensures c.in-Some-rule_parts.ensures in
    let fits = c.requires.fits in omega (arith, fit.0)

pub read_word-requires-2 : goal.read_word-requires-2
read_word-requires-2 c =
    let fit = parts_fit c.args.text.now c.in-Some.field.now _ c.in-Some.ensures c.in-Some-rule_parts.ensures in
    let fits = c.requires.fits in omega (arith, fit.1)

pub read_word-requires-3 : goal.read_word-requires-3
read_word-requires-3 c =
    let fit = parts_fit c.args.text.now c.in-Some.field.now _ c.in-Some.ensures c.in-Some-rule_parts.ensures in
    let fits = c.requires.fits in omega (arith, fit.2)

pub returns-in_err-u : goal.returns-in_err-u
returns-in_err-u c =
    let p = err_from_is_err_and c.from_residual.result c.from_residual.ensures.1 in
    rw (p.1, p.2)
    (u_refused (Unit {0}) c.args.self.now c.args.self.now (fields_of (Some c.args.text.now)) c.in-Some.field.now c.in-Some-rule_parts.u.now c.in-Some-rule_parts.v.now c.in-Some-rule_parts.w.now
    c.in_err-u.field-0.0 c.in-Some.ensures c.in-Some-rule_parts.ensures c.in_err-u.ensures)

pub returns-in_err-v : goal.returns-in_err-v
returns-in_err-v c =
    let p = err_from_is_err_and c.from_residual-in_err-v.result c.from_residual-in_err-v.ensures.1 in
    rw (p.1, p.2)
    (v_refused (Unit {0}) c.args.self.now c.args.self.now (fields_of (Some c.args.text.now)) c.in-Some.field.now c.in-Some-rule_parts.u.now c.in-Some-rule_parts.v.now c.in-Some-rule_parts.w.now
    c.in_err-v.field-0.0 c.in-Some.ensures c.in-Some-rule_parts.ensures c.in_err-v.ensures)

pub returns-in_err-w : goal.returns-in_err-w
returns-in_err-w c =
    let p = err_from_is_err_and c.from_residual-in_err-w.result c.from_residual-in_err-w.ensures.1 in
    rw (p.1, p.2)
    (w_refused (Unit {0}) c.args.self.now c.args.self.now (fields_of (Some c.args.text.now)) c.in-Some.field.now c.in-Some-rule_parts.u.now c.in-Some-rule_parts.v.now c.in-Some-rule_parts.w.now
    c.in_err-w.field-0.0 c.in-Some.ensures c.in-Some-rule_parts.ensures c.in_err-w.ensures)

pub returns : goal.returns
returns c =
    subst (λ (taken : Taken). IsAnswer taken c.take_triple.result c.take_triple.new.self)
    (triple_decides c.args.self.now (fields_of (Some c.args.text.now)) c.in-Some.field.now c.in-Some-rule_parts.u.now c.in-Some-rule_parts.v.now c.in-Some-rule_parts.w.now
    c.in_ok-u.u c.in_ok-v.v c.in_ok-w.w c.in-Some.ensures c.in-Some-rule_parts.ensures c.in_ok-u.ensures c.in_ok-v.ensures c.in_ok-w.ensures)
    c.take_triple.ensures
