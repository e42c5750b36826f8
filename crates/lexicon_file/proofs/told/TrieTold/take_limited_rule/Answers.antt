-- The fields and their shapes, the words and then the rule decide one after another.
use Rattle.std.proofs.Common.{Some, Global, map, ap, ◌∙◌, subst, arith}
use Rattle.std.proofs.lemmas.Result.{err_from_is_err_and}
use Rattle.std.specs.String.{string_bytes}
use Rattle.lexicon_text_definitions.specs.FileLines.{fields_of}
use Rattle.trie_text_definitions.specs.VersionSteps.{Told, Taken, take_limited_rule as take_limited_rule_of}
use Rattle.lexicon_file.specs.declared.error.FileWhy.TheVariants.{Field}
use Rattle.lexicon_file.specs.Told.{IsAnswer}
use Rattle.lexicon_file.proofs.AnswerLemmas.{refused_for}
use Rattle.lexicon_file.proofs.LimitedLemmas.{told_of, parts_fit, no_fields, no_shape, no_before, no_after, u_refused, v_refused, w_refused, rule_decides}
use Rattle.lexicon_file.proofs.told.TrieTold.take_limited_rule.Goals as goal

pub returns-in_default : goal.returns-in_default
returns-in_default c =
    refused_for (Unit {0}) (take_limited_rule_of c.args.self.now (fields_of (Some c.args.text.now))) c.into.result Field c.args.self.now c.into.ensures
    (no_fields c.args.self.now (fields_of (Some c.args.text.now)) c.in_default.ensures)

pub returns-in_default-rule_parts : goal.returns-in_default-rule_parts
returns-in_default-rule_parts c =
    refused_for (Unit {0}) (take_limited_rule_of c.args.self.now (fields_of (Some c.args.text.now))) c.into-in_default-rule_parts.result Field c.args.self.now c.into-in_default-rule_parts.ensures
    (no_shape c.args.self.now (fields_of (Some c.args.text.now)) c.in-Some.field.now c.in-Some.before.now c.in-Some.after.now c.in-Some.ensures c.in_default-rule_parts.ensures)

pub returns-in_default-phases_told : goal.returns-in_default-phases_told
returns-in_default-phases_told c =
    let named = c.names-names.ensures.value ∙ ap (λ (t : Told). t.front.names) c.self.view_is in
    refused_for (Unit {0}) (take_limited_rule_of c.args.self.now (fields_of (Some c.args.text.now))) c.into-in_default-phases_told.result Field c.args.self.now c.into-in_default-phases_told.ensures
    (no_before c.args.self.now (fields_of (Some c.args.text.now)) c.in-Some.field.now c.in-Some.before.now c.in-Some.after.now c.in-Some.ensures
    (map (string_bytes {Z = Global}) c.names-names.result.now) c.in-Some-rule_parts.u.now c.in-Some-rule_parts.v.now c.in-Some-rule_parts.w.now named c.in-Some-rule_parts.ensures
    c.in_default-phases_told.ensures.told)

pub returns-in_default-phases_after_told : goal.returns-in_default-phases_after_told
returns-in_default-phases_after_told c =
    let named = c.names-names.ensures.value ∙ ap (λ (t : Told). t.front.names) c.self.view_is in
    refused_for (Unit {0}) (take_limited_rule_of c.args.self.now (fields_of (Some c.args.text.now))) c.into-in_default-phases_after_told.result Field c.args.self.now
    c.into-in_default-phases_after_told.ensures
    (no_after c.args.self.now (fields_of (Some c.args.text.now)) c.in-Some.field.now c.in-Some.before.now c.in-Some.after.now c.in-Some.ensures
    (map (string_bytes {Z = Global}) c.names-names.result.now) c.in-Some-rule_parts.u.now c.in-Some-rule_parts.v.now c.in-Some-rule_parts.w.now named c.in-Some-rule_parts.ensures
    c.in-Some-phases_told.before c.in-Some-phases_told.ensures.told (told_of c.in-Some-rule_parts.v.now _ _ _ c.in-Some.after.now c.is_empty.ensures c.in_default-phases_after_told.ensures.told))

pub read_word-requires : goal.read_word-requires
read_word-requires c =
    let fit = parts_fit c.args.text.now c.in-Some.field.now c.in-Some.before.now c.in-Some.after.now _ c.in-Some.ensures c.in-Some-rule_parts.ensures in
    let fits = c.requires.fits in omega (arith, fit.0, fits)

pub read_word-requires-2 : goal.read_word-requires-2
read_word-requires-2 c =
    let fit = parts_fit c.args.text.now c.in-Some.field.now c.in-Some.before.now c.in-Some.after.now _ c.in-Some.ensures c.in-Some-rule_parts.ensures in
    let fits = c.requires.fits in omega (arith, fit.1, fits)

pub read_word-requires-3 : goal.read_word-requires-3
read_word-requires-3 c =
    let fit = parts_fit c.args.text.now c.in-Some.field.now c.in-Some.before.now c.in-Some.after.now _ c.in-Some.ensures c.in-Some-rule_parts.ensures in
    let fits = c.requires.fits in omega (arith, fit.2, fits)

pub returns-in_err-u : goal.returns-in_err-u
returns-in_err-u c =
    let named = c.names-names.ensures.value ∙ ap (λ (t : Told). t.front.names) c.self.view_is in
    let p = err_from_is_err_and c.from_residual.result c.from_residual.ensures.1 in
    rw (p.1, p.2)
    (u_refused c.args.self.now (fields_of (Some c.args.text.now)) c.in-Some.field.now c.in-Some.before.now c.in-Some.after.now c.in-Some.ensures
    (map (string_bytes {Z = Global}) c.names-names.result.now) c.in-Some-rule_parts.u.now c.in-Some-rule_parts.v.now c.in-Some-rule_parts.w.now named c.in-Some-rule_parts.ensures
    c.in-Some-phases_told.before c.in-Some-phases_after_told.after c.in-Some-phases_told.ensures.told (told_of c.in-Some-rule_parts.v.now _ _ _ c.in-Some.after.now c.is_empty.ensures c.in-Some-phases_after_told.ensures.told) (Unit {0}) c.in_err-u.field-0.0 c.args.self.now c.in_err-u.ensures)

pub returns-in_err-v : goal.returns-in_err-v
returns-in_err-v c =
    let named = c.names-names.ensures.value ∙ ap (λ (t : Told). t.front.names) c.self.view_is in
    let p = err_from_is_err_and c.from_residual-in_err-v.result c.from_residual-in_err-v.ensures.1 in
    rw (p.1, p.2)
    (v_refused c.args.self.now (fields_of (Some c.args.text.now)) c.in-Some.field.now c.in-Some.before.now c.in-Some.after.now c.in-Some.ensures
    (map (string_bytes {Z = Global}) c.names-names.result.now) c.in-Some-rule_parts.u.now c.in-Some-rule_parts.v.now c.in-Some-rule_parts.w.now named c.in-Some-rule_parts.ensures
    c.in-Some-phases_told.before c.in-Some-phases_after_told.after c.in-Some-phases_told.ensures.told (told_of c.in-Some-rule_parts.v.now _ _ _ c.in-Some.after.now c.is_empty.ensures c.in-Some-phases_after_told.ensures.told) (Unit {0}) c.in_err-v.field-0.0 c.args.self.now c.in_err-v.ensures)

pub returns-in_err-w : goal.returns-in_err-w
returns-in_err-w c =
    let named = c.names-names.ensures.value ∙ ap (λ (t : Told). t.front.names) c.self.view_is in
    let p = err_from_is_err_and c.from_residual-in_err-w.result c.from_residual-in_err-w.ensures.1 in
    rw (p.1, p.2)
    (w_refused c.args.self.now (fields_of (Some c.args.text.now)) c.in-Some.field.now c.in-Some.before.now c.in-Some.after.now c.in-Some.ensures
    (map (string_bytes {Z = Global}) c.names-names.result.now) c.in-Some-rule_parts.u.now c.in-Some-rule_parts.v.now c.in-Some-rule_parts.w.now named c.in-Some-rule_parts.ensures
    c.in-Some-phases_told.before c.in-Some-phases_after_told.after c.in-Some-phases_told.ensures.told (told_of c.in-Some-rule_parts.v.now _ _ _ c.in-Some.after.now c.is_empty.ensures c.in-Some-phases_after_told.ensures.told) (Unit {0}) c.in_err-w.field-0.0 c.args.self.now c.in_err-w.ensures)

pub returns : goal.returns
returns c =
    let named = c.names-names.ensures.value ∙ ap (λ (t : Told). t.front.names) c.self.view_is in
    subst (λ (taken : Taken). IsAnswer taken c.take_limited.result c.take_limited.new.self)
    (rule_decides c.args.self.now (fields_of (Some c.args.text.now)) c.in-Some.field.now c.in-Some.before.now c.in-Some.after.now c.in-Some.ensures
    (map (string_bytes {Z = Global}) c.names-names.result.now) c.in-Some-rule_parts.u.now c.in-Some-rule_parts.v.now c.in-Some-rule_parts.w.now named c.in-Some-rule_parts.ensures
    c.in-Some-phases_told.before c.in-Some-phases_after_told.after c.in-Some-phases_told.ensures.told (told_of c.in-Some-rule_parts.v.now _ _ _ c.in-Some.after.now c.is_empty.ensures c.in-Some-phases_after_told.ensures.told) c.in_ok-u.u c.in_ok-v.v c.in_ok-w.w
    c.in_ok-u.ensures c.in_ok-v.ensures c.in_ok-w.ensures)
    c.take_limited.ensures
