-- The entry is cut at its first blank, and at its second.
use Rattle.std.proofs.Common.{sym, ◌∙◌}
use Rattle.rule_file.proofs.FieldLemmas.{one_field, two_fields, three_fields}
use Rattle.rule_file.proofs.fields.fields_of.Goals as goal

pub returns-in_default : goal.returns-in_default
returns-in_default c = one_field c.args.entry.now c.in_default.ensures

pub returns-in_default-cut : goal.returns-in_default-cut
returns-in_default-cut c = two_fields c.args.entry.now c.in-Some.notation.now c.in-Some.rest.now c.in-Some.ensures c.in_default-cut.ensures

pub returns-then-has_blank : goal.returns-then-has_blank
returns-then-has_blank c =
    three_fields c.args.entry.now c.in-Some.notation.now c.in-Some.rest.now c.in-Some-cut.before.now c.in-Some-cut.after.now _ c.in-Some.ensures c.in-Some-cut.ensures
    (sym c.has_blank.ensures ∙ c.if-has_blank.true)

pub returns : goal.returns
returns c =
    three_fields c.args.entry.now c.in-Some.notation.now c.in-Some.rest.now c.in-Some-cut.before.now c.in-Some-cut.after.now _ c.in-Some.ensures c.in-Some-cut.ensures
    (sym c.has_blank.ensures ∙ c.if-has_blank.false)
