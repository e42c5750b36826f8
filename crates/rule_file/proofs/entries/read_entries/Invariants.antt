use Rattle.std.proofs.Common.{◌≡◌, ◌+◌, drop, map, Global}
use Rattle.std.specs.String.{string_bytes}
use Rattle.toml.specs.View.{table_view}
use Rattle.rule_file_definitions.specs.RuleEntries.{add_entries, read_entries}
use Rattle.rule_file.specs.Triples.{IsKept}
use Rattle.rule_file.proofs.entries.read_entries.Given as goal

abbrev pub invariant-loop-place : goal.invariant-loop-place
invariant-loop-place l = record {
  kept : IsKept l.rules;
  rest : add_entries (map (string_bytes {Z = Global}) l.names) (table_view l.classes) l.rules.rules.items (l.place + 1) (map (string_bytes {Z = Global}) (drop l.place l.entries))
      ≡ read_entries (map (string_bytes {Z = Global}) l.names) (table_view l.classes) (map (string_bytes {Z = Global}) l.entries);
}
