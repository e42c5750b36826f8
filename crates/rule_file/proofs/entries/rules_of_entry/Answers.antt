-- The entry has its fields, its notation is one, or it is refused; then the notation decides.
use Rattle.std.proofs.Common.{◌≡◌, Ok, Err, Result, List, Global, map, sym, subst}
use Rattle.std.specs.String.{string_bytes}
use Rattle.std.specs.Result.{IfOk, IfErr}
use Rattle.toml.specs.View.{table_view}
use Rattle.lexicon_definitions.specs.Rules.{Rule}
use Rattle.rule_file_definitions.specs.EntryWhys.{Why}
use Rattle.rule_file_definitions.specs.RuleEntries.{rules_of_entry}
use Rattle.rule_file.specs.declared.entry_error.EntryError.{EntryError}
use Rattle.rule_file.specs.Faults.{IfWhy}
use Rattle.rule_file.specs.Written.{written, fields_written}
use Rattle.rule_file.proofs.EntryLemmas.{no_fields, no_notation, by_notation}
use Rattle.rule_file.proofs.entries.rules_of_entry.Goals as goal

pub returns-in_default-clause-why : goal.returns-in_default-clause-why
returns-in_default-clause-why c =
    subst (λ (error : EntryError). IfWhy error (λ why. rules_of_entry (map (string_bytes {Z = Global}) c.args.names.now) (table_view c.args.classes.now) c.args.entry.now ≡ Err why)) (sym c.into.ensures)
    (no_fields (map (string_bytes {Z = Global}) c.args.names.now) (table_view c.args.classes.now) c.args.entry.now c.in_default.ensures)

pub returns-in_default-notation_of-clause-why : goal.returns-in_default-notation_of-clause-why
returns-in_default-notation_of-clause-why c =
    subst (λ (error : EntryError). IfWhy error (λ why. rules_of_entry (map (string_bytes {Z = Global}) c.args.names.now) (table_view c.args.classes.now) c.args.entry.now ≡ Err why)) (sym c.into-in_default-notation_of.ensures)
    (no_notation (map (string_bytes {Z = Global}) c.args.names.now) (table_view c.args.classes.now) c.args.entry.now (fields_written c.in-Some.fields) c.in-Some.ensures c.in_default-notation_of.ensures)

pub returns-clause-ok : goal.returns-clause-ok
returns-clause-ok c =
    subst (λ (made : Result (List Rule) Why). IfOk c.rules_of_notation.result (λ rules. made ≡ Ok rules.items))
    (sym (by_notation (map (string_bytes {Z = Global}) c.args.names.now) (table_view c.args.classes.now) c.args.entry.now (fields_written c.in-Some.fields) (written c.in-Some-notation_of.notation) c.in-Some.ensures c.in-Some-notation_of.ensures))
    c.rules_of_notation.ensures.ok

pub returns-clause-why : goal.returns-clause-why
returns-clause-why c =
    subst (λ (made : Result (List Rule) Why). IfErr c.rules_of_notation.result (λ error. IfWhy error (λ why. made ≡ Err why)))
    (sym (by_notation (map (string_bytes {Z = Global}) c.args.names.now) (table_view c.args.classes.now) c.args.entry.now (fields_written c.in-Some.fields) (written c.in-Some-notation_of.notation) c.in-Some.ensures c.in-Some-notation_of.ensures))
    c.rules_of_notation.ensures.why
