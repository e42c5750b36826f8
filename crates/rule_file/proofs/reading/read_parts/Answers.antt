-- What is read part by part is the rule set of the texts, or its first fault.
use Rattle.std.proofs.Common.{◌≡◌, Err, Global, map, arith, refl}
use Rattle.std.specs.String.{string_bytes}
use Rattle.std.proofs.lemmas.List.{length-map}
use Rattle.std.proofs.lemmas.Result.{err_from_is_err_and}
use Rattle.toml.specs.View.{table_view}
use Rattle.rule_file_definitions.specs.RuleFileFaults as files
use Rattle.rule_file_definitions.specs.SoundClasses.{read_phases, read_classes}
use Rattle.rule_file_definitions.specs.PlainEntries.{read_plain}
use Rattle.rule_file_definitions.specs.RuleEntries.{read_entries}
use Rattle.rule_file_definitions.specs.RuleFileReadings.{read_set, IsDecided}
use Rattle.rule_file_definitions.proofs.SoundEntries.{named}
use Rattle.rule_file.specs.Faults.{IsGrammarFault}
use Rattle.rule_file.specs.Held.{texts_of, set_of}
use Rattle.rule_file.proofs.FaultLemmas.{with_fault}
use Rattle.rule_file.proofs.SetLemmas.{phases_refused, classes_refused, plain_refused, rules_refused, set_read, decided_fault, decided_set, decided_grammar}
use Rattle.rule_file.proofs.reading.read_parts.Goals as goal

pub returns-in_err-check_phases-clause-fault : goal.returns-in_err-check_phases-clause-fault
returns-in_err-check_phases-clause-fault c =
    let p = err_from_is_err_and c.from_residual.result c.from_residual.ensures.1 in
    rw (p.1, p.2)
    (with_fault c.in_err-check_phases.field-0.0 (λ (fault : files.Fault). read_phases (map (string_bytes {Z = Global}) c.args.phases.now) ≡ Err fault)
    (λ (fault : files.Fault). IsDecided (read_set (texts_of c.args.phases.now c.args.grammar.now c.args.plain.now c.args.rules.now (table_view c.args.classes.now))) (Err fault))
    (λ fault e. decided_fault (read_set (texts_of c.args.phases.now c.args.grammar.now c.args.plain.now c.args.rules.now (table_view c.args.classes.now))) fault (phases_refused (texts_of c.args.phases.now c.args.grammar.now c.args.plain.now c.args.rules.now (table_view c.args.classes.now)) fault e)) c.in_err-check_phases.ensures.fault)

pub returns-in_err-check_classes-clause-fault : goal.returns-in_err-check_classes-clause-fault
returns-in_err-check_classes-clause-fault c =
    let p = err_from_is_err_and c.from_residual-in_err-check_classes.result c.from_residual-in_err-check_classes.ensures.1 in
    rw (p.1, p.2)
    (with_fault c.in_err-check_classes.field-0.0 (λ (fault : files.Fault). read_classes (table_view c.args.classes.now) ≡ Err fault)
    (λ (fault : files.Fault). IsDecided (read_set (texts_of c.args.phases.now c.args.grammar.now c.args.plain.now c.args.rules.now (table_view c.args.classes.now))) (Err fault))
    (λ fault e. decided_fault (read_set (texts_of c.args.phases.now c.args.grammar.now c.args.plain.now c.args.rules.now (table_view c.args.classes.now))) fault (classes_refused (texts_of c.args.phases.now c.args.grammar.now c.args.plain.now c.args.rules.now (table_view c.args.classes.now)) (map (string_bytes {Z = Global}) c.args.phases.now) c.in_ok-check_phases.ensures.ok fault e)) c.in_err-check_classes.ensures.fault)

pub returns-in_err-plain-clause-fault : goal.returns-in_err-plain-clause-fault
returns-in_err-plain-clause-fault c =
    let p = err_from_is_err_and c.from_residual-in_err-plain.result c.from_residual-in_err-plain.ensures.1 in
    rw (p.1, p.2)
    (with_fault c.in_err-plain.field-0.0 (λ (fault : files.Fault). read_plain (table_view c.args.classes.now) (map (string_bytes {Z = Global}) c.args.plain.now) ≡ Err fault)
    (λ (fault : files.Fault). IsDecided (read_set (texts_of c.args.phases.now c.args.grammar.now c.args.plain.now c.args.rules.now (table_view c.args.classes.now))) (Err fault))
    (λ fault e. decided_fault (read_set (texts_of c.args.phases.now c.args.grammar.now c.args.plain.now c.args.rules.now (table_view c.args.classes.now))) fault (plain_refused (texts_of c.args.phases.now c.args.grammar.now c.args.plain.now c.args.rules.now (table_view c.args.classes.now)) (map (string_bytes {Z = Global}) c.args.phases.now) c.in_ok-check_phases.ensures.ok (table_view c.args.classes.now) c.in_ok-check_classes.ensures.ok fault e)) c.in_err-plain.ensures.fault)

pub read_entries-requires : goal.read_entries-requires
read_entries-requires c =
    let phases = named (map (string_bytes {Z = Global}) c.args.phases.now) (map (string_bytes {Z = Global}) c.args.phases.now) c.in_ok-check_phases.ensures.ok in
    let few = phases.0.few in
    let long = length-map c.args.phases.now (string_bytes {Z = Global}) in
    omega (arith, few, long)

pub returns-in_err-rules-clause-fault : goal.returns-in_err-rules-clause-fault
returns-in_err-rules-clause-fault c =
    let p = err_from_is_err_and c.from_residual-in_err-rules.result c.from_residual-in_err-rules.ensures.1 in
    rw (p.1, p.2)
    (with_fault c.in_err-rules.field-0.0 (λ (fault : files.Fault). read_entries (map (string_bytes {Z = Global}) c.args.phases.now) (table_view c.args.classes.now) (map (string_bytes {Z = Global}) c.args.rules.now) ≡ Err fault)
    (λ (fault : files.Fault). IsDecided (read_set (texts_of c.args.phases.now c.args.grammar.now c.args.plain.now c.args.rules.now (table_view c.args.classes.now))) (Err fault))
    (λ fault e. decided_fault (read_set (texts_of c.args.phases.now c.args.grammar.now c.args.plain.now c.args.rules.now (table_view c.args.classes.now))) fault (rules_refused (texts_of c.args.phases.now c.args.grammar.now c.args.plain.now c.args.rules.now (table_view c.args.classes.now)) (map (string_bytes {Z = Global}) c.args.phases.now) c.in_ok-check_phases.ensures.ok (table_view c.args.classes.now) c.in_ok-check_classes.ensures.ok c.in_ok-plain.plain.items c.in_ok-plain.ensures.ok fault e)) c.in_err-rules.ensures.fault)

pub automaton_of-requires-clause-some : goal.automaton_of-requires-clause-some
automaton_of-requires-clause-some c =
    let phases = named (map (string_bytes {Z = Global}) c.args.phases.now) (map (string_bytes {Z = Global}) c.args.phases.now) c.in_ok-check_phases.ensures.ok in
    let some = phases.1 in
    let long = length-map c.args.phases.now (string_bytes {Z = Global}) in
    omega (arith, some, long)

pub automaton_of-requires-clause-few : goal.automaton_of-requires-clause-few
automaton_of-requires-clause-few c =
    let phases = named (map (string_bytes {Z = Global}) c.args.phases.now) (map (string_bytes {Z = Global}) c.args.phases.now) c.in_ok-check_phases.ensures.ok in
    let few = phases.0.few in
    let long = length-map c.args.phases.now (string_bytes {Z = Global}) in
    omega (arith, few, long)

pub returns-in_err-automaton-clause-fault : goal.returns-in_err-automaton-clause-fault
returns-in_err-automaton-clause-fault c =
    let p = err_from_is_err_and c.from_residual-in_err-automaton.result c.from_residual-in_err-automaton.ensures.1 in
    rw (p.1, p.2)
    (with_fault c.in_err-automaton.field-0.0 (λ (fault : files.Fault). IsGrammarFault (map (string_bytes {Z = Global}) c.args.phases.now) c.args.grammar.now fault)
    (λ (fault : files.Fault). IsDecided (read_set (texts_of c.args.phases.now c.args.grammar.now c.args.plain.now c.args.rules.now (table_view c.args.classes.now))) (Err fault))
    (λ fault e. decided_grammar (read_set (texts_of c.args.phases.now c.args.grammar.now c.args.plain.now c.args.rules.now (table_view c.args.classes.now))) (set_of c.args.phases.now c.args.grammar.now c.in_ok-plain.plain.items c.in_ok-rules.rules.items) fault (set_read (texts_of c.args.phases.now c.args.grammar.now c.args.plain.now c.args.rules.now (table_view c.args.classes.now)) (map (string_bytes {Z = Global}) c.args.phases.now) c.in_ok-check_phases.ensures.ok (table_view c.args.classes.now) c.in_ok-check_classes.ensures.ok c.in_ok-plain.plain.items c.in_ok-plain.ensures.ok c.in_ok-rules.rules.items c.in_ok-rules.ensures.ok) e) c.in_err-automaton.ensures.fault)

pub returns-clause-ok : goal.returns-clause-ok
returns-clause-ok c =
    decided_set (read_set (texts_of c.args.phases.now c.args.grammar.now c.args.plain.now c.args.rules.now (table_view c.args.classes.now))) (set_of c.args.phases.now c.args.grammar.now c.in_ok-plain.plain.items c.in_ok-rules.rules.items) (set_of c.args.phases.now c.args.grammar.now c.in_ok-plain.plain.items c.in_ok-rules.rules.items)
    (set_read (texts_of c.args.phases.now c.args.grammar.now c.args.plain.now c.args.rules.now (table_view c.args.classes.now)) (map (string_bytes {Z = Global}) c.args.phases.now) c.in_ok-check_phases.ensures.ok (table_view c.args.classes.now) c.in_ok-check_classes.ensures.ok c.in_ok-plain.plain.items c.in_ok-plain.ensures.ok c.in_ok-rules.rules.items c.in_ok-rules.ensures.ok) refl c.in_ok-automaton.ensures.text
