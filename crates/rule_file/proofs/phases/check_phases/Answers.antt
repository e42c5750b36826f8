-- The names are tested one after another.
use Rattle.std.proofs.Common.{◌≡◌, Err, map, length, sym, ◌∙◌, subst, Global, arith}
use Rattle.std.specs.String.{string_bytes}
use Rattle.std.proofs.lemmas.List.{length-map}
use Rattle.rule_file_definitions.specs.SoundClasses.{read_phases}
use Rattle.rule_file.specs.declared.error.RuleError.{RuleError}
use Rattle.rule_file.specs.Faults.{IfFault}
use Rattle.rule_file.proofs.PhaseLemmas.{no_phase, some_phase, is_none, is_some}
use Rattle.rule_file.proofs.phases.check_phases.Goals as goal

pub returns-then-is_empty-clause-fault : goal.returns-then-is_empty-clause-fault
returns-then-is_empty-clause-fault c =
    let none = is_none (length c.args.names.now) (sym c.is_empty.ensures ∙ c.if-is_empty.true) in
    subst (λ (error : RuleError). IfFault error (λ fault. read_phases (map (string_bytes {Z = Global}) c.args.names.now) ≡ Err fault)) (sym c.into.ensures)
    (no_phase (map (string_bytes {Z = Global}) c.args.names.now) (length-map c.args.names.now (string_bytes {Z = Global}) ∙ none))

pub loop-place-init : goal.loop-place-init
loop-place-init c =
    let some = is_some (length c.args.names.now) (sym c.is_empty.ensures ∙ c.if-is_empty.false) in
    let long = length-map c.args.names.now (string_bytes {Z = Global}) in
    some_phase (map (string_bytes {Z = Global}) c.args.names.now) (omega (arith, long, some))
