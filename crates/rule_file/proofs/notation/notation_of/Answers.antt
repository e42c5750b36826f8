-- The entry is cut part by part.
use Rattle.std.proofs.Common.{sym, ◌∙◌}
use Rattle.rule_file.specs.Written.{part_of}
use Rattle.rule_file.proofs.NotationLemmas.{no_x, no_u, no_v, no_w, by_form}
use Rattle.rule_file.proofs.notation.notation_of.Goals as goal

pub returns-in_default : goal.returns-in_default
returns-in_default c = no_x c.args.entry.now c.in_default.ensures

pub returns-in_default-cut : goal.returns-in_default-cut
returns-in_default-cut c = no_u c.args.entry.now c.in-Some.x.now c.in-Some.rest.now c.in-Some.ensures c.in_default-cut.ensures

pub returns-in_default-cut_v : goal.returns-in_default-cut_v
returns-in_default-cut_v c =
    no_v c.args.entry.now c.in-Some.x.now c.in-Some.rest.now c.in-Some-cut.u.now c.in-Some-cut.rest.now c.in-Some.ensures c.in-Some-cut.ensures c.in_default-cut_v.ensures

pub returns-in_default-w_of : goal.returns-in_default-w_of
returns-in_default-w_of c =
    no_w c.args.entry.now c.in-Some.x.now c.in-Some.rest.now c.in-Some-cut.u.now c.in-Some-cut.rest.now (part_of c.in-Some-cut_v.v) c.in-Some-cut_v.rest.now
    c.in-Some.ensures c.in-Some-cut.ensures c.in-Some-cut_v.ensures c.in_default-w_of.ensures

pub returns-then-is_well_formed : goal.returns-then-is_well_formed
returns-then-is_well_formed c =
    by_form c.args.entry.now c.in-Some.x.now c.in-Some.rest.now c.in-Some-cut.u.now c.in-Some-cut.rest.now (part_of c.in-Some-cut_v.v) c.in-Some-cut_v.rest.now
    (part_of c.in-Some-w_of.w) _ c.in-Some.ensures c.in-Some-cut.ensures c.in-Some-cut_v.ensures c.in-Some-w_of.ensures
    (sym c.is_well_formed.ensures ∙ c.if-is_well_formed.true)

pub returns-else-is_well_formed : goal.returns-else-is_well_formed
returns-else-is_well_formed c =
    by_form c.args.entry.now c.in-Some.x.now c.in-Some.rest.now c.in-Some-cut.u.now c.in-Some-cut.rest.now (part_of c.in-Some-cut_v.v) c.in-Some-cut_v.rest.now
    (part_of c.in-Some-w_of.w) _ c.in-Some.ensures c.in-Some-cut.ensures c.in-Some-cut_v.ensures c.in-Some-w_of.ensures
    (sym c.is_well_formed.ensures ∙ c.if-is_well_formed.false)
