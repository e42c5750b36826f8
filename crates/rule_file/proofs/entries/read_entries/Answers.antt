-- Before the first entry there are no rules; then one entry more is added, or refused.
use Rattle.std.proofs.Common.{◌≡◌, ℕ, ◌+◌, ◌<◌, Err, List, ◌∷◌, drop, length, map, sym, ◌∙◌, ap, Global, arith}
use Rattle.std.specs.String.{string_bytes}
use Rattle.toml.specs.View.{table_view}
use Rattle.lexicon_definitions.specs.Rules.{Rule}
use Rattle.rule_file_definitions.specs.RuleFileFaults.{Fault}
use Rattle.rule_file_definitions.specs.RuleEntries.{add_entries, read_entries}
use Rattle.rule_file.specs.Faults.{IsFaultOf}
use Rattle.rule_file.proofs.EntryLemmas.{entry_turn, entry_fault}
use Rattle.rule_file.proofs.FaultLemmas.{with_fault}
use Rattle.rule_file.proofs.Turns.{left_first}
use Rattle.rule_file.proofs.entries.read_entries.Goals as goal

pub loop-place-init : goal.loop-place-init
unfolding read_entries
loop-place-init c = record {
  kept = c.new-rules.ensures.kept;
  rest = ap (λ (rules : List Rule). add_entries (map (string_bytes {Z = Global}) c.args.names.now) (table_view c.args.classes.now) rules 1 (map (string_bytes {Z = Global}) c.args.entries.now)) c.new-rules.ensures.rules;
}

pub loop-place-preserved : goal.loop-place-preserved
loop-place-preserved c =
    let at = c.loop-place in
    let within : at.place < length c.args.entries.now = omega (arith, at.auto.place-end, c.loop-place-test.true) in
    let first = left_first (string_bytes {Z = Global}) c.args.entries.now at.place c.index-entries-place.result within c.index-entries-place.is
    ∙ ap (λ (entry : List ℕ). entry ∷ map (string_bytes {Z = Global}) (drop (at.place + 1) c.args.entries.now)) (sym c.as_bytes.ensures.value) in
    record {
      kept = c.in_default.ensures.kept;
      rest = entry_turn (map (string_bytes {Z = Global}) c.args.names.now) (table_view c.args.classes.now) at.rules.rules.items (at.place + 1) _ _ c.as_bytes.result.now _ first at.invariant.rest
          c.add_entry.new.rules.rules.items c.in_default.ensures.ok;
    }

pub returns-in-Err-clause-fault : goal.returns-in-Err-clause-fault
returns-in-Err-clause-fault c =
    let at = c.loop-place in
    let within : at.place < length c.args.entries.now = omega (arith, at.auto.place-end, c.loop-place-test.true) in
    let first = left_first (string_bytes {Z = Global}) c.args.entries.now at.place c.index-entries-place.result within c.index-entries-place.is
    ∙ ap (λ (entry : List ℕ). entry ∷ map (string_bytes {Z = Global}) (drop (at.place + 1) c.args.entries.now)) (sym c.as_bytes.ensures.value) in
    with_fault c.error_at.result (λ (fault : Fault). IsFaultOf fault (at.place + 1) c.in-Err.error)
    (λ (fault : Fault). read_entries (map (string_bytes {Z = Global}) c.args.names.now) (table_view c.args.classes.now) (map (string_bytes {Z = Global}) c.args.entries.now) ≡ Err fault)
    (λ fault is. entry_fault (map (string_bytes {Z = Global}) c.args.names.now) (table_view c.args.classes.now) at.rules.rules.items (at.place + 1) _ _ c.as_bytes.result.now _ first at.invariant.rest
    fault c.in-Err.error is c.in-Err.ensures.why) c.error_at.ensures
