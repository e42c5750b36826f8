-- The entry is refused by itself, or its rules are added.
use Rattle.std.proofs.Common.{◌≡◌, Ok, Err, Result, List, Global, map, sym, subst}
use Rattle.std.specs.String.{string_bytes}
use Rattle.std.specs.Result.{OnOk, IfErr}
use Rattle.std.proofs.lemmas.Result.{err_from_is_err_and}
use Rattle.toml.specs.View.{table_view}
use Rattle.lexicon_definitions.specs.Rules.{Rule}
use Rattle.rule_file_definitions.specs.EntryWhys as entries
use Rattle.rule_file_definitions.specs.EntryWhys.{Why}
use Rattle.rule_file_definitions.specs.RuleEntries.{rules_of_entry, add_entry}
use Rattle.rule_file.specs.Faults.{IfWhy}
use Rattle.rule_file.proofs.FaultLemmas.{with_why}
use Rattle.rule_file.proofs.EntryLemmas.{entry_refused, entry_read}
use Rattle.rule_file.proofs.entries.add_entry.Goals as goal

pub returns-in_err-new-clause-why : goal.returns-in_err-new-clause-why
returns-in_err-new-clause-why c =
    let p = err_from_is_err_and c.from_residual.result c.from_residual.ensures.1 in
    rw (p.1, p.2)
    (with_why c.in_err-new.field-0.0 (λ (why : entries.Why). rules_of_entry (map (string_bytes {Z = Global}) c.args.names.now) (table_view c.args.classes.now) c.args.entry.now ≡ Err why)
    (λ (why : entries.Why). add_entry (map (string_bytes {Z = Global}) c.args.names.now) (table_view c.args.classes.now) c.args.rules.now.rules.items c.args.entry.now ≡ Err why)
    (λ why e. entry_refused (map (string_bytes {Z = Global}) c.args.names.now) (table_view c.args.classes.now) c.args.entry.now c.args.rules.now.rules.items why e) c.in_err-new.ensures.why)

pub returns-clause-ok : goal.returns-clause-ok
returns-clause-ok c =
    subst (λ (made : Result (List Rule) Why). OnOk c.add_rules.result (made ≡ Ok c.add_rules.new.self.rules.items))
    (sym (entry_read (map (string_bytes {Z = Global}) c.args.names.now) (table_view c.args.classes.now) c.args.entry.now c.args.rules.now.rules.items c.in_ok-new.new.items c.in_ok-new.ensures.ok)) c.add_rules.ensures.ok

pub returns-clause-why : goal.returns-clause-why
returns-clause-why c =
    subst (λ (made : Result (List Rule) Why). IfErr c.add_rules.result (λ error. IfWhy error (λ why. made ≡ Err why)))
    (sym (entry_read (map (string_bytes {Z = Global}) c.args.names.now) (table_view c.args.classes.now) c.args.entry.now c.args.rules.now.rules.items c.in_ok-new.new.items c.in_ok-new.ensures.ok)) c.add_rules.ensures.why
