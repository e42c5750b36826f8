-- The three tests of a name.
use Rattle.std.proofs.Common.{not, map, sym, ◌∙◌, ap, Global, arith}
use Rattle.std.specs.String.{string_bytes}
use Rattle.std.proofs.lemmas.List.{length-map}
use Rattle.rule_file.proofs.PhaseLemmas.{not_name, no_room, by_room}
use Rattle.rule_file.proofs.phases.may_come_next.Goals as goal

pub returns-then-not-is_phase_name : goal.returns-then-not-is_phase_name
returns-then-not-is_phase_name c =
    not_name (map (string_bytes {Z = Global}) c.args.names.now) c.args.name.now (sym c.is_phase_name.ensures ∙ c.if-not-is_phase_name.true)

pub returns-then-names-ge-MOST_PHASES : goal.returns-then-names-ge-MOST_PHASES
returns-then-names-ge-MOST_PHASES c =
    let long = length-map c.args.names.now (string_bytes {Z = Global}) in
    let many = c.if-names-ge-MOST_PHASES.true in
    no_room (map (string_bytes {Z = Global}) c.args.names.now) c.args.name.now (sym c.is_phase_name.ensures ∙ c.if-not-is_phase_name.false) (omega (arith, long, many))

pub returns : goal.returns
returns c =
    let long = length-map c.args.names.now (string_bytes {Z = Global}) in
    let few = c.if-names-ge-MOST_PHASES.false in
    ap not c.has_name.ensures
    ∙ by_room (map (string_bytes {Z = Global}) c.args.names.now) c.args.name.now (sym c.is_phase_name.ensures ∙ c.if-not-is_phase_name.false) (omega (arith, long, few))
